-- Words that clap takes are a form, and a form's words are taken.
use Rattle.std.proofs.Common.{◌≡◌, ℕ, ◌==◌, ◌<◌, ◌≤◌, ◌^◌, List, [], ◌∷◌, Bool, true, false, true≢false, refl, codes, length}
use Rattle.std.proofs.Common.{◌∙◌, sym, subst, Some, Option, arith, decimal, ◌⊎◌, inl, inr, ⊎_elim}
use Rattle.std.specs.Str.{bytes_eq}
use Rattle.std.specs.List.{AllByRecursion}
use Rattle.std.proofs.lemmas.Slice.Eq.{bytes_eq-Decides}
use Rattle.std.proofs.lemmas.Bool.Decides.{Decides-eqb}
use Rattle.std.proofs.lemmas.Fmt.{decimal_nonempty}
use Rattle.clap.specs.Walk.{Text, Row, is_empty, first_of}
use Rattle.clap.specs.Simple.{subcommand_of}
use Rattle.clap.specs.Takes.{takes}
use Rattle.clap.specs.Faults.{fault_of}
use Rattle.lt_ranges.specs.declared.key.Key.{Key}
use Rattle.lt_ranges.specs.declared.key.Key.TheVariants.{Below, Bytes, After, Above}
use Rattle.lt_ranges.specs.KeyText.{key_text}
use Rattle.lt_trace.specs.Grammar.{IsNumber}
use Rattle.lt_trace.specs.Cut.{Lacks}
use Rattle.lt_trace.proofs.TextLaws.{decimal_lacks}
use Rattle.lt_words.specs.Words.{AreCutters, AreWorkers, IsCommand, IsMaker, IsMark, IsRecipe}
use Rattle.lt_words.specs.Grammar.{grammar}
use Rattle.lt_words.specs.Reading.{AreGiven, AreWorkersGiven, IsGiven, IsMarkGiven, IsPlain, IsRead, Reads, SpellsMark}
use Rattle.lt_words.specs.declared.command.Recipe.{Recipe}
use Rattle.lt_words.specs.declared.command.Command.{Command}
use Rattle.lt_words.specs.declared.command.Command.TheVariants.{Serial, Crew, Live, Cut, Store, Make, Sum}
use Rattle.lt_words.proofs.ReadingLaws.{differ}
use Rattle.lt_words.proofs.Taking.{finds_crew, finds_cut, finds_live, finds_make, finds_serial, finds_store, finds_sum}
use Rattle.lt_words.proofs.Taking.{given, two_given, three_given, no_word, unknown_word}
use Rattle.lt_words.proofs.Taking.{takes_crew, takes_cut, takes_live, takes_make, takes_serial, takes_store, takes_sum}
use Rattle.lt_words.proofs.Taking.{crew_alone, cut_alone, cut_with_one, live_alone}
use Rattle.lt_words.proofs.Taking.{make_alone, make_with_one, make_with_two, sum_alone, sum_with_one, sum_with_two}
use Rattle.lt_words.proofs.Refusing.{crew_with_more, cut_with_more, live_with_more, make_with_more, serial_with_more, store_with_more}
use Rattle.lt_words.proofs.Refusing.{sum_with_more}

-- no word is empty or begins with `-`
abbrev pub ArePlain : List Text → Type 0
ArePlain words = AllByRecursion IsPlain words

-- the words that clap takes
data Form : List Text → Type 0 where
  serial : Form (codes "serial" ∷ [])
  crew : (w : Text) → IsPlain w → Form (codes "crew" ∷ w ∷ [])
  live : (w : Text) → IsPlain w → Form (codes "live" ∷ w ∷ [])
  cut : (w k : Text) → IsPlain w → IsPlain k → Form (codes "cut" ∷ w ∷ k ∷ [])
  store : Form (codes "store" ∷ [])
  make : (a b c : Text) → IsPlain a → IsPlain b → IsPlain c → Form (codes "make" ∷ a ∷ b ∷ c ∷ [])
  sum : (a b c : Text) → IsPlain a → IsPlain b → IsPlain c → Form (codes "sum" ∷ a ∷ b ∷ c ∷ [])

abbrev Passes : List Text → Type 0
Passes words = is_empty (fault_of grammar words) ≡ true

never : (b : Bool) → b ≡ false → b ≡ true → ⊥
never b no_b b_is = true≢false (sym b_is ∙ no_b)

serial_form : (ws : List Text) → ArePlain ws → Passes (codes "serial" ∷ ws) → Form (codes "serial" ∷ ws)
serial_form [] p e = serial
serial_form ([] ∷ ws) p e = absurd p.0
serial_form ((x ∷ xs) ∷ ws) p e = absurd (never _ (serial_with_more x xs ws p.0) e)

-- a name that is refused alone, and with more than one word, but not with one
workers_form : (name : Text) → is_empty (fault_of grammar (name ∷ [])) ≡ false
    → ((x y : ℕ) (xs ys : List ℕ) (ws : List Text) → (x == 45) ≡ false → (y == 45) ≡ false
    → is_empty (fault_of grammar (name ∷ (x ∷ xs) ∷ (y ∷ ys) ∷ ws)) ≡ false)
    → ((w : Text) → IsPlain w → Form (name ∷ w ∷ [])) → (ws : List Text) → ArePlain ws → Passes (name ∷ ws) → Form (name ∷ ws)
workers_form name alone more one [] p e = absurd (never _ alone e)
workers_form name alone more one (w ∷ []) p e = one w p.0
workers_form name alone more one ([] ∷ v ∷ ws) p e = absurd p.0
workers_form name alone more one ((x ∷ xs) ∷ [] ∷ ws) p e = absurd p.1.0
workers_form name alone more one ((x ∷ xs) ∷ (y ∷ ys) ∷ ws) p e = absurd (never _ (more x y xs ys ws p.0 p.1.0) e)

crew_form : (ws : List Text) → ArePlain ws → Passes (codes "crew" ∷ ws) → Form (codes "crew" ∷ ws)
crew_form ws p e = workers_form (codes "crew") crew_alone crew_with_more crew ws p e

live_form : (ws : List Text) → ArePlain ws → Passes (codes "live" ∷ ws) → Form (codes "live" ∷ ws)
live_form ws p e = workers_form (codes "live") live_alone live_with_more live ws p e

cut_form : (ws : List Text) → ArePlain ws → Passes (codes "cut" ∷ ws) → Form (codes "cut" ∷ ws)
cut_form [] p e = absurd (never _ cut_alone e)
cut_form ([] ∷ ws) p e = absurd p.0
cut_form ((x ∷ xs) ∷ []) p e = absurd (never _ (cut_with_one x xs p.0) e)
cut_form ((x ∷ xs) ∷ k ∷ []) p e = cut (x ∷ xs) k p.0 p.1.0
cut_form ((x ∷ xs) ∷ [] ∷ z ∷ ws) p e = absurd p.1.0
cut_form ((x ∷ xs) ∷ (y ∷ ys) ∷ [] ∷ ws) p e = absurd p.1.1.0
cut_form ((x ∷ xs) ∷ (y ∷ ys) ∷ (z ∷ zs) ∷ ws) p e = absurd (never _ (cut_with_more x y z xs ys zs ws p.0 p.1.0 p.1.1.0) e)

store_form : (ws : List Text) → ArePlain ws → Passes (codes "store" ∷ ws) → Form (codes "store" ∷ ws)
store_form [] p e = store
store_form ([] ∷ ws) p e = absurd p.0
store_form ((x ∷ xs) ∷ ws) p e = absurd (never _ (store_with_more x xs ws p.0) e)

make_form : (ws : List Text) → ArePlain ws → Passes (codes "make" ∷ ws) → Form (codes "make" ∷ ws)
make_form [] p e = absurd (never _ make_alone e)
make_form ([] ∷ ws) p e = absurd p.0
make_form ((x ∷ xs) ∷ []) p e = absurd (never _ (make_with_one x xs p.0) e)
make_form ((x ∷ xs) ∷ [] ∷ ws) p e = absurd p.1.0
make_form ((x ∷ xs) ∷ (y ∷ ys) ∷ []) p e = absurd (never _ (make_with_two x y xs ys p.0 p.1.0) e)
make_form ((x ∷ xs) ∷ (y ∷ ys) ∷ c ∷ []) p e = make (x ∷ xs) (y ∷ ys) c p.0 p.1.0 p.1.1.0
make_form ((x ∷ xs) ∷ (y ∷ ys) ∷ [] ∷ d ∷ ws) p e = absurd p.1.1.0
make_form ((x ∷ xs) ∷ (y ∷ ys) ∷ (z ∷ zs) ∷ [] ∷ ws) p e = absurd p.1.1.1.0
make_form ((x ∷ xs) ∷ (y ∷ ys) ∷ (z ∷ zs) ∷ (u ∷ us) ∷ ws) p e =
    absurd (never _ (make_with_more x y z u xs ys zs us ws p.0 p.1.0 p.1.1.0 p.1.1.1.0) e)

sum_form : (ws : List Text) → ArePlain ws → Passes (codes "sum" ∷ ws) → Form (codes "sum" ∷ ws)
sum_form [] p e = absurd (never _ sum_alone e)
sum_form ([] ∷ ws) p e = absurd p.0
sum_form ((x ∷ xs) ∷ []) p e = absurd (never _ (sum_with_one x xs p.0) e)
sum_form ((x ∷ xs) ∷ [] ∷ ws) p e = absurd p.1.0
sum_form ((x ∷ xs) ∷ (y ∷ ys) ∷ []) p e = absurd (never _ (sum_with_two x y xs ys p.0 p.1.0) e)
sum_form ((x ∷ xs) ∷ (y ∷ ys) ∷ c ∷ []) p e = sum (x ∷ xs) (y ∷ ys) c p.0 p.1.0 p.1.1.0
sum_form ((x ∷ xs) ∷ (y ∷ ys) ∷ [] ∷ d ∷ ws) p e = absurd p.1.1.0
sum_form ((x ∷ xs) ∷ (y ∷ ys) ∷ (z ∷ zs) ∷ [] ∷ ws) p e = absurd p.1.1.1.0
sum_form ((x ∷ xs) ∷ (y ∷ ys) ∷ (z ∷ zs) ∷ (u ∷ us) ∷ ws) p e =
    absurd (never _ (sum_with_more x y z u xs ys zs us ws p.0 p.1.0 p.1.1.0 p.1.1.1.0) e)

-- the first word is this name, or it is not
named : (name word : Text) → (name ≡ word) ⊎ (bytes_eq name word ≡ false)
named name word = go (bytes_eq name word) refl
  where
    go : (b : Bool) → bytes_eq name word ≡ b → (name ≡ word) ⊎ (bytes_eq name word ≡ false)
    go true e = inl ((bytes_eq-Decides name word).0 e)
    go false e = inr e

-- a form's words by another name for its first
renamed : (name word : Text) (ws : List Text) → name ≡ word → (Passes (name ∷ ws) → Form (name ∷ ws))
    → Passes (word ∷ ws) → Form (word ∷ ws)
renamed name word ws is form e = subst (λ w. Form (w ∷ ws)) is (form (subst (λ w. Passes (w ∷ ws)) (sym is) e))

form_taken : (ws : List Text) → ArePlain ws → Passes ws → Form ws
form_taken [] p e = absurd (never _ no_word e)
form_taken ([] ∷ ws) p e = absurd p.0
form_taken ((x ∷ xs) ∷ ws) p e =
    ⊎_elim (λ is. renamed (codes "serial") (x ∷ xs) ws is (serial_form ws p.1) e)
    (λ no_serial. ⊎_elim (λ is. renamed (codes "crew") (x ∷ xs) ws is (crew_form ws p.1) e)
    (λ no_crew. ⊎_elim (λ is. renamed (codes "live") (x ∷ xs) ws is (live_form ws p.1) e)
    (λ no_live. ⊎_elim (λ is. renamed (codes "make") (x ∷ xs) ws is (make_form ws p.1) e)
    (λ no_make. ⊎_elim (λ is. renamed (codes "sum") (x ∷ xs) ws is (sum_form ws p.1) e)
    (λ no_sum. ⊎_elim (λ is. renamed (codes "cut") (x ∷ xs) ws is (cut_form ws p.1) e)
    (λ no_cut. ⊎_elim (λ is. renamed (codes "store") (x ∷ xs) ws is (store_form ws p.1) e)
    (λ no_store. absurd (never _ (unknown_word x xs ws p.0 no_serial no_crew no_live no_make no_sum no_cut no_store) e))
    (named (codes "store") (x ∷ xs)))
    (named (codes "cut") (x ∷ xs)))
    (named (codes "sum") (x ∷ xs)))
    (named (codes "make") (x ∷ xs)))
    (named (codes "live") (x ∷ xs)))
    (named (codes "crew") (x ∷ xs)))
    (named (codes "serial") (x ∷ xs))

-- ---- what is read is the command

-- the number of a value
number_of : (rows : List Row) (name w : Text) (least most n : ℕ) → first_of name rows ≡ Some w → IsGiven rows name least most n
    → IsNumber w least most n
number_of rows name w least most n is g =
    let found = g.found in
    let same : g.text ≡ w = cc in
    subst (λ t. IsNumber t least most n) same g.number

workers_of : (w : Text) (n : ℕ) → AreWorkersGiven (given (codes "N") w ∷ []) n → (name : Text) → AreWorkers name (name ∷ w ∷ []) n
workers_of w n g name =
    let is = number_of (given (codes "N") w ∷ []) (codes "N") w _ _ _ refl g in
    record { words_are = λ i. name ∷ is.spelled i ∷ []; some_workers = is.from; few_workers = is.up_to }

-- the key of a value
mark_is : (rows : List Row) (k : Text) (mark : Key) → first_of (codes "KEY") rows ≡ Some k → IsMarkGiven rows mark → SpellsMark k mark
mark_is rows k mark is g =
    let found = g.found in
    let same : g.text ≡ k = cc in
    subst (λ t. SpellsMark t mark) same g.spells

cutters_of : (w k : Text) (n : ℕ) (mark : Key) → AreWorkersGiven (two_given w k) n → IsMarkGiven (two_given w k) mark
    → AreCutters (codes "cut" ∷ w ∷ k ∷ []) n mark
cutters_of w k n mark g h =
    let is = number_of (two_given w k) (codes "N") w _ _ _ refl g in
    let at = mark_is (two_given w k) k mark refl h in
    record {
      words_are = λ i. codes "cut" ∷ is.spelled i ∷ at.spelled i ∷ [];
      some_workers = is.from;
      few_workers = is.up_to;
      mark_is = at.mark_is;
    }

recipe_of : (a b c : Text) (recipe : Recipe) → AreGiven (three_given a b c) recipe
    → (name : Text) → IsMaker name (name ∷ a ∷ b ∷ c ∷ []) recipe
recipe_of a b c recipe g name =
    let seed = number_of (three_given a b c) (codes "SEED") a _ _ _ refl g.seed_is in
    let txns = number_of (three_given a b c) (codes "TXNS") b _ _ _ refl g.txns_are in
    let lines = number_of (three_given a b c) (codes "LINES") c _ _ _ refl g.lines_are in
    record {
      words_are = λ i. name ∷ seed.spelled i ∷ txns.spelled i ∷ lines.spelled i ∷ [];
      ranges = record {
        seed = omega (arith, seed.up_to);
        some_txns = txns.from;
        few_txns = txns.up_to;
        some_lines = lines.from;
        few_lines = lines.up_to;
      };
    }

serial_read : (c : Command) → Reads (codes "serial") [] c → IsCommand (codes "serial" ∷ []) c
serial_read Serial r = refl
serial_read (Crew n) r = absurd (differ (codes "serial") (codes "crew") refl r.0)
serial_read (Live n) r = absurd (differ (codes "serial") (codes "live") refl r.0)
serial_read (Cut n mark) r = absurd (differ (codes "serial") (codes "cut") refl r.0)
serial_read Store r = absurd (differ (codes "serial") (codes "store") refl r)
serial_read (Make recipe) r = absurd (differ (codes "serial") (codes "make") refl r.0)
serial_read (Sum recipe) r = absurd (differ (codes "serial") (codes "sum") refl r.0)

crew_read : (w : Text) (c : Command) → Reads (codes "crew") (given (codes "N") w ∷ []) c → IsCommand (codes "crew" ∷ w ∷ []) c
crew_read w Serial r = absurd (differ (codes "crew") (codes "serial") refl r)
crew_read w (Crew n) r = workers_of w n r.1 (codes "crew")
crew_read w (Live n) r = absurd (differ (codes "crew") (codes "live") refl r.0)
crew_read w (Cut n mark) r = absurd (differ (codes "crew") (codes "cut") refl r.0)
crew_read w Store r = absurd (differ (codes "crew") (codes "store") refl r)
crew_read w (Make recipe) r = absurd (differ (codes "crew") (codes "make") refl r.0)
crew_read w (Sum recipe) r = absurd (differ (codes "crew") (codes "sum") refl r.0)

live_read : (w : Text) (c : Command) → Reads (codes "live") (given (codes "N") w ∷ []) c → IsCommand (codes "live" ∷ w ∷ []) c
live_read w Serial r = absurd (differ (codes "live") (codes "serial") refl r)
live_read w (Crew n) r = absurd (differ (codes "live") (codes "crew") refl r.0)
live_read w (Live n) r = workers_of w n r.1 (codes "live")
live_read w (Cut n mark) r = absurd (differ (codes "live") (codes "cut") refl r.0)
live_read w Store r = absurd (differ (codes "live") (codes "store") refl r)
live_read w (Make recipe) r = absurd (differ (codes "live") (codes "make") refl r.0)
live_read w (Sum recipe) r = absurd (differ (codes "live") (codes "sum") refl r.0)

cut_read : (w k : Text) (c : Command) → Reads (codes "cut") (two_given w k) c → IsCommand (codes "cut" ∷ w ∷ k ∷ []) c
cut_read w k Serial r = absurd (differ (codes "cut") (codes "serial") refl r)
cut_read w k (Crew n) r = absurd (differ (codes "cut") (codes "crew") refl r.0)
cut_read w k (Live n) r = absurd (differ (codes "cut") (codes "live") refl r.0)
cut_read w k (Cut n mark) r = cutters_of w k n mark r.1 r.2
cut_read w k Store r = absurd (differ (codes "cut") (codes "store") refl r)
cut_read w k (Make recipe) r = absurd (differ (codes "cut") (codes "make") refl r.0)
cut_read w k (Sum recipe) r = absurd (differ (codes "cut") (codes "sum") refl r.0)

store_read : (c : Command) → Reads (codes "store") [] c → IsCommand (codes "store" ∷ []) c
store_read Serial r = absurd (differ (codes "store") (codes "serial") refl r)
store_read (Crew n) r = absurd (differ (codes "store") (codes "crew") refl r.0)
store_read (Live n) r = absurd (differ (codes "store") (codes "live") refl r.0)
store_read (Cut n mark) r = absurd (differ (codes "store") (codes "cut") refl r.0)
store_read Store r = refl
store_read (Make recipe) r = absurd (differ (codes "store") (codes "make") refl r.0)
store_read (Sum recipe) r = absurd (differ (codes "store") (codes "sum") refl r.0)

make_read : (a b c : Text) (command : Command) → Reads (codes "make") (three_given a b c) command
    → IsCommand (codes "make" ∷ a ∷ b ∷ c ∷ []) command
make_read a b c Serial r = absurd (differ (codes "make") (codes "serial") refl r)
make_read a b c (Crew n) r = absurd (differ (codes "make") (codes "crew") refl r.0)
make_read a b c (Live n) r = absurd (differ (codes "make") (codes "live") refl r.0)
make_read a b c (Cut n mark) r = absurd (differ (codes "make") (codes "cut") refl r.0)
make_read a b c Store r = absurd (differ (codes "make") (codes "store") refl r)
make_read a b c (Make recipe) r = recipe_of a b c recipe r.1 (codes "make")
make_read a b c (Sum recipe) r = absurd (differ (codes "make") (codes "sum") refl r.0)

sum_read : (a b c : Text) (command : Command) → Reads (codes "sum") (three_given a b c) command
    → IsCommand (codes "sum" ∷ a ∷ b ∷ c ∷ []) command
sum_read a b c Serial r = absurd (differ (codes "sum") (codes "serial") refl r)
sum_read a b c (Crew n) r = absurd (differ (codes "sum") (codes "crew") refl r.0)
sum_read a b c (Live n) r = absurd (differ (codes "sum") (codes "live") refl r.0)
sum_read a b c (Cut n mark) r = absurd (differ (codes "sum") (codes "cut") refl r.0)
sum_read a b c Store r = absurd (differ (codes "sum") (codes "store") refl r)
sum_read a b c (Make recipe) r = absurd (differ (codes "sum") (codes "make") refl r.0)
sum_read a b c (Sum recipe) r = recipe_of a b c recipe r.1 (codes "sum")

same_form : (a b : Text × List Row) → Some a ≡ Some b → a ≡ b
same_form a b e = cc

-- what is read of the form that is there
reads_it : (form : Option (Text × List Row)) (name : Text) (rows : List Row) (c : Command) → form ≡ Some (name, rows) → IsRead form c
    → Reads name rows c
reads_it form name rows c is r =
    subst (λ (p : Text × List Row). Reads p.0 p.1 c) (same_form (r.name, r.rows) (name, rows) (sym r.met ∙ is)) r.read

read_of_form : (ws : List Text) → Form ws → (c : Command) → IsRead (subcommand_of grammar ws) c → IsCommand ws c
read_of_form _ serial c r = serial_read c (reads_it _ _ _ c finds_serial r)
read_of_form _ (crew w p) c r = crew_read w c (reads_it _ _ _ c (finds_crew w p) r)
read_of_form _ (live w p) c r = live_read w c (reads_it _ _ _ c (finds_live w p) r)
read_of_form _ (cut w k p q) c r = cut_read w k c (reads_it _ _ _ c (finds_cut w k p q) r)
read_of_form _ store c r = store_read c (reads_it _ _ _ c finds_store r)
read_of_form _ (make a b d p q s) c r = make_read a b d c (reads_it _ _ _ c (finds_make a b d p q s) r)
read_of_form _ (sum a b d p q s) c r = sum_read a b d c (reads_it _ _ _ c (finds_sum a b d p q s) r)

-- what is read of plain words that clap takes is the command
pub read_is_command : (ws : List Text) → ArePlain ws → is_empty (fault_of grammar ws) ≡ true → (c : Command)
    → IsRead (subcommand_of grammar ws) c → IsCommand ws c
read_is_command ws p e c r = read_of_form ws (form_taken ws p e) c r

-- ---- a command's words are taken, and it is read of them

plain_text : (text : Text) → 0 < length text → Lacks 45 text → IsPlain text
plain_text [] some lacks = absurd (omega (arith, some))
plain_text (x ∷ xs) some lacks = go (x == 45) refl
  where
    go : (b : Bool) → (x == 45) ≡ b → (x == 45) ≡ false
    go true e = absurd (lacks.0 ((Decides-eqb x 45).0 e))
    go false e = e

plain_number : (n : ℕ) → n < 2 ^ 64 → IsPlain (decimal n)
plain_number n small = plain_text (decimal n) (decimal_nonempty n small) (decimal_lacks 45 n small (omega arith))

-- the words are plain, clap takes them, and the command is read
pub record Answers (ws : List Text) (c : Command) : Type 0 where
  pub plain : ArePlain ws
  pub takes_them : takes grammar ws ≡ true
  pub reads : IsRead (subcommand_of grammar ws) c

given_number : (rows : List Row) (name : Text) (least most n : ℕ) → first_of name rows ≡ Some (decimal n) → least ≤ n → n ≤ most
    → IsGiven rows name least most n
given_number rows name least most n is from up_to =
    record { text = decimal n; found = is; number = record { spelled = refl; from = from; up_to = up_to } }

given_recipe : (r : Recipe) → IsRecipe r → AreGiven (three_given (decimal r.seed) (decimal r.txns) (decimal r.lines)) r
given_recipe r is =
    let rows = three_given (decimal r.seed) (decimal r.txns) (decimal r.lines) in
    record {
      seed_is = given_number rows (codes "SEED") _ _ r.seed refl (omega arith) (omega (arith, is.seed));
      txns_are = given_number rows (codes "TXNS") _ _ r.txns refl is.some_txns is.few_txns;
      lines_are = given_number rows (codes "LINES") _ _ r.lines refl is.some_lines is.few_lines;
    }

serial_answers : Answers (codes "serial" ∷ []) Serial
serial_answers = record {
  plain = (refl, tt);
  takes_them = takes_serial;
  reads = record { name = codes "serial"; rows = []; met = finds_serial; read = refl };
}

given_workers : (n : ℕ) → 1 ≤ n → n ≤ 16 → AreWorkersGiven (given (codes "N") (decimal n) ∷ []) n
given_workers n from up_to = given_number (given (codes "N") (decimal n) ∷ []) (codes "N") 1 16 n refl from up_to

crew_answers : (n : ℕ) → 1 ≤ n → n ≤ 16 → Answers (codes "crew" ∷ decimal n ∷ []) (Crew n)
crew_answers n from up_to =
    let p = plain_number n (omega (arith, up_to)) in
    record {
      plain = (refl, (p, tt));
      takes_them = takes_crew (decimal n) p;
      reads = record {
        name = codes "crew";
        rows = given (codes "N") (decimal n) ∷ [];
        met = finds_crew (decimal n) p;
        read = (refl, given_workers n from up_to);
      };
    }

live_answers : (n : ℕ) → 1 ≤ n → n ≤ 16 → Answers (codes "live" ∷ decimal n ∷ []) (Live n)
live_answers n from up_to =
    let p = plain_number n (omega (arith, up_to)) in
    record {
      plain = (refl, (p, tt));
      takes_them = takes_live (decimal n) p;
      reads = record {
        name = codes "live";
        rows = given (codes "N") (decimal n) ∷ [];
        met = finds_live (decimal n) p;
        read = (refl, given_workers n from up_to);
      };
    }

given_workers_of_two : (n : ℕ) (k : Text) → 1 ≤ n → n ≤ 16 → AreWorkersGiven (two_given (decimal n) k) n
given_workers_of_two n k from up_to = given_number (two_given (decimal n) k) (codes "N") 1 16 n refl from up_to

given_mark : (w : Text) (mark : Key) → IsMark mark → IsMarkGiven (two_given w (key_text mark)) mark
given_mark w mark is = record { text = key_text mark; found = refl; spells = record { spelled = refl; mark_is = is } }

-- the key begins with a quotation mark
plain_mark : (mark : Key) → IsMark mark → IsPlain (key_text mark)
plain_mark Below is = absurd is
plain_mark (Bytes bytes) is = refl
plain_mark (After bytes) is = absurd is
plain_mark Above is = absurd is

cut_answers : (n : ℕ) (mark : Key) → 1 ≤ n → n ≤ 16 → IsMark mark → Answers (codes "cut" ∷ decimal n ∷ key_text mark ∷ []) (Cut n mark)
cut_answers n mark from up_to is =
    let p = plain_number n (omega (arith, up_to)) in
    let q = plain_mark mark is in
    record {
      plain = (refl, (p, (q, tt)));
      takes_them = takes_cut (decimal n) (key_text mark) p q;
      reads = record {
        name = codes "cut";
        rows = two_given (decimal n) (key_text mark);
        met = finds_cut (decimal n) (key_text mark) p q;
        read = (refl, given_workers_of_two n (key_text mark) from up_to, given_mark (decimal n) mark is);
      };
    }

store_answers : Answers (codes "store" ∷ []) Store
store_answers = record {
  plain = (refl, tt);
  takes_them = takes_store;
  reads = record { name = codes "store"; rows = []; met = finds_store; read = refl };
}

make_answers : (r : Recipe) → IsRecipe r → Answers (codes "make" ∷ decimal r.seed ∷ decimal r.txns ∷ decimal r.lines ∷ []) (Make r)
make_answers r is =
    let p = plain_number r.seed is.seed in
    let q = plain_number r.txns (omega (arith, is.few_txns)) in
    let s = plain_number r.lines (omega (arith, is.few_lines)) in
    record {
      plain = (refl, (p, (q, (s, tt))));
      takes_them = takes_make _ _ _ p q s;
      reads = record {
        name = codes "make";
        rows = three_given (decimal r.seed) (decimal r.txns) (decimal r.lines);
        met = finds_make _ _ _ p q s;
        read = (refl, given_recipe r is);
      };
    }

sum_answers : (r : Recipe) → IsRecipe r → Answers (codes "sum" ∷ decimal r.seed ∷ decimal r.txns ∷ decimal r.lines ∷ []) (Sum r)
sum_answers r is =
    let p = plain_number r.seed is.seed in
    let q = plain_number r.txns (omega (arith, is.few_txns)) in
    let s = plain_number r.lines (omega (arith, is.few_lines)) in
    record {
      plain = (refl, (p, (q, (s, tt))));
      takes_them = takes_sum _ _ _ p q s;
      reads = record {
        name = codes "sum";
        rows = three_given (decimal r.seed) (decimal r.txns) (decimal r.lines);
        met = finds_sum _ _ _ p q s;
        read = (refl, given_recipe r is);
      };
    }

pub command_answers : (ws : List Text) (c : Command) → IsCommand ws c → Answers ws c
command_answers ws Serial is = subst (λ v. Answers v Serial) (sym is) serial_answers
command_answers ws (Crew n) is = subst (λ v. Answers v (Crew n)) (sym is.words_are) (crew_answers n is.some_workers is.few_workers)
command_answers ws (Live n) is = subst (λ v. Answers v (Live n)) (sym is.words_are) (live_answers n is.some_workers is.few_workers)
command_answers ws (Cut n mark) is =
    subst (λ v. Answers v (Cut n mark)) (sym is.words_are) (cut_answers n mark is.some_workers is.few_workers is.mark_is)
command_answers ws Store is = subst (λ v. Answers v Store) (sym is) store_answers
command_answers ws (Make r) is = subst (λ v. Answers v (Make r)) (sym is.words_are) (make_answers r is.ranges)
command_answers ws (Sum r) is = subst (λ v. Answers v (Sum r)) (sym is.words_are) (sum_answers r is.ranges)
