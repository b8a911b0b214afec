-- What is read of a form and its values.
use Rattle.std.proofs.Common.{◌≡◌, ℕ, ◌^◌, ◌-◌, List, false, true≢false, refl, codes, ◌∙◌, sym, subst, Some, None, Option, IsNone}
use Rattle.std.specs.Prelude.{IfNone}
use Rattle.std.specs.Str.{bytes_eq}
use Rattle.std.proofs.lemmas.Slice.Eq.{bytes_eq-Decides}
use Rattle.clap.specs.Walk.{Row, Text, first_of, rows_of}
use Rattle.clap.specs.Matches.{first_value}
use Rattle.clap.specs.declared.parser.matches.Found.{Found}
use Rattle.clap.proofs.WalkLemmas.{first_value-rows}
use Rattle.lt_ranges.specs.declared.key.Key.{Key}
use Rattle.lt_trace.specs.Grammar.{IsNumber}
use Rattle.lt_words.specs.Reading.{IsGiven, AreWorkersGiven, IsMarkGiven, SpellsMark, AreGiven, Reads}
use Rattle.lt_words.specs.declared.command.Recipe.{Recipe}
use Rattle.lt_words.specs.declared.command.Command.{Command}
use Rattle.lt_words.specs.declared.command.Command.TheVariants.{Serial, Crew, Live, Cut, Store, Make, Sum}

pub if_none : {X : Type 0} (r : Option X) {P : Type 0} → P → IfNone r P
if_none None p = p
if_none (Some x) p = tt

pub if_none_so : {X : Type 0} (r : Option X) {P : Type 0} → (IsNone r → P) → IfNone r P
if_none_so None p = p refl
if_none_so (Some x) p = tt

-- two names that differ
pub differ : (a b : Text) → bytes_eq a b ≡ false → a ≡ b → ⊥
differ a b apart same = true≢false (sym ((bytes_eq-Decides a b).1 same) ∙ apart)

-- where no value has the name, it gives no number
pub nothing_given : (f : Found) (name : Text) → None ≡ first_value f name → (least most n : ℕ) → IsGiven (rows_of f) name least most n → ⊥
nothing_given f name none least most n given = cc (first_value-rows f name)

-- the text of the value
pub text_given : (f : Found) (name text : Text) → Some text ≡ first_value f name → first_of name (rows_of f) ≡ Some text
text_given f name text some = sym (first_value-rows f name) ∙ sym some

-- a number that is given is the text's
number_given : (f : Found) (name text : Text) (least most n : ℕ) → Some text ≡ first_value f name → IsGiven (rows_of f) name least most n
    → IsNumber text least most n
number_given f name text least most n some given =
    let known = text_given f name text some in
    let same : given.text ≡ text = cc in
    subst (λ t. IsNumber t least most n) same given.number

-- where the text is no such number, none is given
pub no_number_so : (r : Option ℕ) (f : Found) (name text : Text) (least most : ℕ) → Some text ≡ first_value f name
    → (IsNone r → (n : ℕ) → IsNumber text least most n → ⊥) → IsNone r → (n : ℕ) → IsGiven (rows_of f) name least most n → ⊥
no_number_so r f name text least most some none is n given = none is n (number_given f name text least most n some given)

-- where the number of workers is not given, there is none
pub no_workers : (rows : List Row) (most : ℕ) → most ≡ 16 → ((n : ℕ) → IsGiven rows (codes "N") 1 most n → ⊥) → (n : ℕ)
    → AreWorkersGiven rows n → ⊥
no_workers rows most is none n given = none n (subst (λ m. IsGiven rows (codes "N") 1 m n) (sym is) given)

-- where no value is the key's, no key is given
pub no_key : (f : Found) → None ≡ first_value f (codes "KEY") → (mark : Key) → IsMarkGiven (rows_of f) mark → ⊥
no_key f none mark given = cc (first_value-rows f (codes "KEY"))

-- a key that is given is the text's
mark_given : (f : Found) (text : Text) (mark : Key) → Some text ≡ first_value f (codes "KEY") → IsMarkGiven (rows_of f) mark
    → SpellsMark text mark
mark_given f text mark some given =
    let known = text_given f (codes "KEY") text some in
    let same : given.text ≡ text = cc in
    subst (λ t. SpellsMark t mark) same given.spells

-- where the text is no such key, none is given
pub no_mark_so : (r : Option Key) (f : Found) (text : Text) → Some text ≡ first_value f (codes "KEY")
    → IfNone r ((mark : Key) → SpellsMark text mark → ⊥) → IfNone r ((mark : Key) → IsMarkGiven (rows_of f) mark → ⊥)
no_mark_so None f text some none = λ mark given. none mark (mark_given f text mark some given)
no_mark_so (Some key) f text some none = tt

-- where one of the numbers is not given, they are not all

pub no_seed : (rows : List Row) → ((n : ℕ) → IsGiven rows (codes "SEED") 0 (2 ^ 64 - 1) n → ⊥) → (recipe : Recipe)
    → AreGiven rows recipe → ⊥
no_seed rows none recipe given = none recipe.seed given.seed_is

pub no_txns : (rows : List Row) → ((n : ℕ) → IsGiven rows (codes "TXNS") 1 1024 n → ⊥) → (recipe : Recipe) → AreGiven rows recipe → ⊥
no_txns rows none recipe given = none recipe.txns given.txns_are

pub no_lines : (rows : List Row) (most : ℕ) → most ≡ 64512 → ((n : ℕ) → IsGiven rows (codes "LINES") 1 most n → ⊥) → (recipe : Recipe)
    → AreGiven rows recipe → ⊥
no_lines rows most is none recipe given =
    none recipe.lines (subst (λ m. IsGiven rows (codes "LINES") 1 m recipe.lines) (sym is) given.lines_are)

-- where a form's numbers are not given, it is no command

pub no_crew : (name : Text) (rows : List Row) → name ≡ codes "crew" → ((n : ℕ) → AreWorkersGiven rows n → ⊥)
    → (command : Command) → Reads name rows command → ⊥
no_crew name rows is none Serial r = differ (codes "crew") (codes "serial") refl (sym is ∙ r)
no_crew name rows is none (Crew n) r = none n r.1
no_crew name rows is none (Live n) r = differ (codes "crew") (codes "live") refl (sym is ∙ r.0)
no_crew name rows is none (Cut n mark) r = differ (codes "crew") (codes "cut") refl (sym is ∙ r.0)
no_crew name rows is none Store r = differ (codes "crew") (codes "store") refl (sym is ∙ r)
no_crew name rows is none (Make recipe) r = differ (codes "crew") (codes "make") refl (sym is ∙ r.0)
no_crew name rows is none (Sum recipe) r = differ (codes "crew") (codes "sum") refl (sym is ∙ r.0)

pub no_live : (name : Text) (rows : List Row) → name ≡ codes "live" → ((n : ℕ) → AreWorkersGiven rows n → ⊥)
    → (command : Command) → Reads name rows command → ⊥
no_live name rows is none Serial r = differ (codes "live") (codes "serial") refl (sym is ∙ r)
no_live name rows is none (Crew n) r = differ (codes "live") (codes "crew") refl (sym is ∙ r.0)
no_live name rows is none (Live n) r = none n r.1
no_live name rows is none (Cut n mark) r = differ (codes "live") (codes "cut") refl (sym is ∙ r.0)
no_live name rows is none Store r = differ (codes "live") (codes "store") refl (sym is ∙ r)
no_live name rows is none (Make recipe) r = differ (codes "live") (codes "make") refl (sym is ∙ r.0)
no_live name rows is none (Sum recipe) r = differ (codes "live") (codes "sum") refl (sym is ∙ r.0)

pub no_cut : (name : Text) (rows : List Row) → name ≡ codes "cut" → ((n : ℕ) → AreWorkersGiven rows n → ⊥)
    → (command : Command) → Reads name rows command → ⊥
no_cut name rows is none Serial r = differ (codes "cut") (codes "serial") refl (sym is ∙ r)
no_cut name rows is none (Crew n) r = differ (codes "cut") (codes "crew") refl (sym is ∙ r.0)
no_cut name rows is none (Live n) r = differ (codes "cut") (codes "live") refl (sym is ∙ r.0)
no_cut name rows is none (Cut n mark) r = none n r.1
no_cut name rows is none Store r = differ (codes "cut") (codes "store") refl (sym is ∙ r)
no_cut name rows is none (Make recipe) r = differ (codes "cut") (codes "make") refl (sym is ∙ r.0)
no_cut name rows is none (Sum recipe) r = differ (codes "cut") (codes "sum") refl (sym is ∙ r.0)

pub no_cut_at : (name : Text) (rows : List Row) → name ≡ codes "cut" → ((mark : Key) → IsMarkGiven rows mark → ⊥)
    → (command : Command) → Reads name rows command → ⊥
no_cut_at name rows is none Serial r = differ (codes "cut") (codes "serial") refl (sym is ∙ r)
no_cut_at name rows is none (Crew n) r = differ (codes "cut") (codes "crew") refl (sym is ∙ r.0)
no_cut_at name rows is none (Live n) r = differ (codes "cut") (codes "live") refl (sym is ∙ r.0)
no_cut_at name rows is none (Cut n mark) r = none mark r.2
no_cut_at name rows is none Store r = differ (codes "cut") (codes "store") refl (sym is ∙ r)
no_cut_at name rows is none (Make recipe) r = differ (codes "cut") (codes "make") refl (sym is ∙ r.0)
no_cut_at name rows is none (Sum recipe) r = differ (codes "cut") (codes "sum") refl (sym is ∙ r.0)

pub no_make : (name : Text) (rows : List Row) → name ≡ codes "make" → ((recipe : Recipe) → AreGiven rows recipe → ⊥)
    → (command : Command) → Reads name rows command → ⊥
no_make name rows is none Serial r = differ (codes "make") (codes "serial") refl (sym is ∙ r)
no_make name rows is none (Crew n) r = differ (codes "make") (codes "crew") refl (sym is ∙ r.0)
no_make name rows is none (Live n) r = differ (codes "make") (codes "live") refl (sym is ∙ r.0)
no_make name rows is none (Cut n mark) r = differ (codes "make") (codes "cut") refl (sym is ∙ r.0)
no_make name rows is none Store r = differ (codes "make") (codes "store") refl (sym is ∙ r)
no_make name rows is none (Make recipe) r = none recipe r.1
no_make name rows is none (Sum recipe) r = differ (codes "make") (codes "sum") refl (sym is ∙ r.0)

pub no_sum : (name : Text) (rows : List Row) → name ≡ codes "sum" → ((recipe : Recipe) → AreGiven rows recipe → ⊥)
    → (command : Command) → Reads name rows command → ⊥
no_sum name rows is none Serial r = differ (codes "sum") (codes "serial") refl (sym is ∙ r)
no_sum name rows is none (Crew n) r = differ (codes "sum") (codes "crew") refl (sym is ∙ r.0)
no_sum name rows is none (Live n) r = differ (codes "sum") (codes "live") refl (sym is ∙ r.0)
no_sum name rows is none (Cut n mark) r = differ (codes "sum") (codes "cut") refl (sym is ∙ r.0)
no_sum name rows is none Store r = differ (codes "sum") (codes "store") refl (sym is ∙ r)
no_sum name rows is none (Make recipe) r = differ (codes "sum") (codes "make") refl (sym is ∙ r.0)
no_sum name rows is none (Sum recipe) r = none recipe r.1
