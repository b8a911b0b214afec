-- Where clap takes the words, and what it finds in them.
use Rattle.std.proofs.Common.{◌≡◌, ℕ, ◌==◌, List, [], ◌∷◌, true, false, refl, codes, Some, None}
use Rattle.std.specs.Str.{bytes_eq}
use Rattle.clap.specs.Walk.{Text, Row, is_empty}
use Rattle.clap.specs.Simple.{is_simple, subcommand_of}
use Rattle.clap.specs.Takes.{takes}
use Rattle.clap.specs.Faults.{fault_of, is_simple_and_free}
use Rattle.clap.specs.declared.parser.matches.ValueSource.TheVariants.{CommandLine}
use Rattle.clap.specs.declared.builder.value_parser.Reading.TheVariants.{AsWritten}
use Rattle.clap.proofs.OnLiterals.{clap_on_literals}
use Rattle.lt_words.specs.Grammar.{grammar}
use Rattle.lt_words.specs.Reading.{IsPlain}

pub grammar_is_free : is_simple_and_free grammar ≡ true
unfolding clap_on_literals
grammar_is_free = refl

pub grammar_is_simple : is_simple grammar ≡ true
unfolding clap_on_literals
grammar_is_simple = refl

pub takes_serial : takes grammar (codes "serial" ∷ []) ≡ true
unfolding clap_on_literals
takes_serial = refl

pub takes_crew : (w : Text) → IsPlain w → takes grammar (codes "crew" ∷ w ∷ []) ≡ true
unfolding clap_on_literals
takes_crew [] p = absurd p
takes_crew (x ∷ xs) p = simp p

pub takes_live : (w : Text) → IsPlain w → takes grammar (codes "live" ∷ w ∷ []) ≡ true
unfolding clap_on_literals
takes_live [] p = absurd p
takes_live (x ∷ xs) p = simp p

pub takes_cut : (w k : Text) → IsPlain w → IsPlain k → takes grammar (codes "cut" ∷ w ∷ k ∷ []) ≡ true
unfolding clap_on_literals
takes_cut [] k p q = absurd p
takes_cut (x ∷ xs) [] p q = absurd q
takes_cut (x ∷ xs) (y ∷ ys) p q = simp (p, q)

pub takes_store : takes grammar (codes "store" ∷ []) ≡ true
unfolding clap_on_literals
takes_store = refl

pub takes_make : (a b c : Text) → IsPlain a → IsPlain b → IsPlain c → takes grammar (codes "make" ∷ a ∷ b ∷ c ∷ []) ≡ true
unfolding clap_on_literals
takes_make [] b c p q r = absurd p
takes_make (x ∷ xs) [] c p q r = absurd q
takes_make (x ∷ xs) (y ∷ ys) [] p q r = absurd r
takes_make (x ∷ xs) (y ∷ ys) (z ∷ zs) p q r = simp (p, q, r)

pub takes_sum : (a b c : Text) → IsPlain a → IsPlain b → IsPlain c → takes grammar (codes "sum" ∷ a ∷ b ∷ c ∷ []) ≡ true
unfolding clap_on_literals
takes_sum [] b c p q r = absurd p
takes_sum (x ∷ xs) [] c p q r = absurd q
takes_sum (x ∷ xs) (y ∷ ys) [] p q r = absurd r
takes_sum (x ∷ xs) (y ∷ ys) (z ∷ zs) p q r = simp (p, q, r)

-- the entry of a value
abbrev pub given : Text → Text → Row
given name text = record { id = name; values = text ∷ []; count = None; source = Some CommandLine; reading = AsWritten }

abbrev pub two_given : Text → Text → List Row
two_given w k = given (codes "N") w ∷ given (codes "KEY") k ∷ []

abbrev pub three_given : Text → Text → Text → List Row
three_given a b c = given (codes "SEED") a ∷ given (codes "TXNS") b ∷ given (codes "LINES") c ∷ []

pub finds_serial : subcommand_of grammar (codes "serial" ∷ []) ≡ Some (codes "serial", [])
unfolding clap_on_literals
finds_serial = refl

pub finds_crew : (w : Text) → IsPlain w → subcommand_of grammar (codes "crew" ∷ w ∷ []) ≡ Some (codes "crew", given (codes "N") w ∷ [])
unfolding clap_on_literals
finds_crew [] p = absurd p
finds_crew (x ∷ xs) p = simp p

pub finds_live : (w : Text) → IsPlain w → subcommand_of grammar (codes "live" ∷ w ∷ []) ≡ Some (codes "live", given (codes "N") w ∷ [])
unfolding clap_on_literals
finds_live [] p = absurd p
finds_live (x ∷ xs) p = simp p

pub finds_cut : (w k : Text) → IsPlain w → IsPlain k
    → subcommand_of grammar (codes "cut" ∷ w ∷ k ∷ []) ≡ Some (codes "cut", two_given w k)
unfolding clap_on_literals
finds_cut [] k p q = absurd p
finds_cut (x ∷ xs) [] p q = absurd q
finds_cut (x ∷ xs) (y ∷ ys) p q = simp (p, q)

pub finds_store : subcommand_of grammar (codes "store" ∷ []) ≡ Some (codes "store", [])
unfolding clap_on_literals
finds_store = refl

pub finds_make : (a b c : Text) → IsPlain a → IsPlain b → IsPlain c
    → subcommand_of grammar (codes "make" ∷ a ∷ b ∷ c ∷ []) ≡ Some (codes "make", three_given a b c)
unfolding clap_on_literals
finds_make [] b c p q r = absurd p
finds_make (x ∷ xs) [] c p q r = absurd q
finds_make (x ∷ xs) (y ∷ ys) [] p q r = absurd r
finds_make (x ∷ xs) (y ∷ ys) (z ∷ zs) p q r = simp (p, q, r)

pub finds_sum : (a b c : Text) → IsPlain a → IsPlain b → IsPlain c
    → subcommand_of grammar (codes "sum" ∷ a ∷ b ∷ c ∷ []) ≡ Some (codes "sum", three_given a b c)
unfolding clap_on_literals
finds_sum [] b c p q r = absurd p
finds_sum (x ∷ xs) [] c p q r = absurd q
finds_sum (x ∷ xs) (y ∷ ys) [] p q r = absurd r
finds_sum (x ∷ xs) (y ∷ ys) (z ∷ zs) p q r = simp (p, q, r)

-- no word, a first word that is no form's name, and a form without its values

pub no_word : is_empty (fault_of grammar []) ≡ false
unfolding clap_on_literals
no_word = refl

pub unknown_word : (x : ℕ) (xs : List ℕ) (ws : List Text) → (x == 45) ≡ false
    → bytes_eq (codes "serial") (x ∷ xs) ≡ false → bytes_eq (codes "crew") (x ∷ xs) ≡ false
    → bytes_eq (codes "live") (x ∷ xs) ≡ false → bytes_eq (codes "make") (x ∷ xs) ≡ false → bytes_eq (codes "sum") (x ∷ xs) ≡ false
    → bytes_eq (codes "cut") (x ∷ xs) ≡ false → bytes_eq (codes "store") (x ∷ xs) ≡ false
    → is_empty (fault_of grammar ((x ∷ xs) ∷ ws)) ≡ false
unfolding clap_on_literals
unknown_word x xs ws e s c l m u t r = simp (s, c, l, m, u, t, r, e)

pub crew_alone : is_empty (fault_of grammar (codes "crew" ∷ [])) ≡ false
unfolding clap_on_literals
crew_alone = refl

pub live_alone : is_empty (fault_of grammar (codes "live" ∷ [])) ≡ false
unfolding clap_on_literals
live_alone = refl

pub cut_alone : is_empty (fault_of grammar (codes "cut" ∷ [])) ≡ false
unfolding clap_on_literals
cut_alone = refl

pub cut_with_one : (x : ℕ) (xs : List ℕ) → (x == 45) ≡ false → is_empty (fault_of grammar (codes "cut" ∷ (x ∷ xs) ∷ [])) ≡ false
unfolding clap_on_literals
cut_with_one x xs e = simp e

pub make_alone : is_empty (fault_of grammar (codes "make" ∷ [])) ≡ false
unfolding clap_on_literals
make_alone = refl

pub make_with_one : (x : ℕ) (xs : List ℕ) → (x == 45) ≡ false → is_empty (fault_of grammar (codes "make" ∷ (x ∷ xs) ∷ [])) ≡ false
unfolding clap_on_literals
make_with_one x xs e = simp e

pub make_with_two : (x y : ℕ) (xs ys : List ℕ) → (x == 45) ≡ false → (y == 45) ≡ false
    → is_empty (fault_of grammar (codes "make" ∷ (x ∷ xs) ∷ (y ∷ ys) ∷ [])) ≡ false
unfolding clap_on_literals
make_with_two x y xs ys e f = simp (e, f)

pub sum_alone : is_empty (fault_of grammar (codes "sum" ∷ [])) ≡ false
unfolding clap_on_literals
sum_alone = refl

pub sum_with_one : (x : ℕ) (xs : List ℕ) → (x == 45) ≡ false → is_empty (fault_of grammar (codes "sum" ∷ (x ∷ xs) ∷ [])) ≡ false
unfolding clap_on_literals
sum_with_one x xs e = simp e

pub sum_with_two : (x y : ℕ) (xs ys : List ℕ) → (x == 45) ≡ false → (y == 45) ≡ false
    → is_empty (fault_of grammar (codes "sum" ∷ (x ∷ xs) ∷ (y ∷ ys) ∷ [])) ≡ false
unfolding clap_on_literals
sum_with_two x y xs ys e f = simp (e, f)
