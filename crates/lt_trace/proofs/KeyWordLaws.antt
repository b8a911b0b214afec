-- Where the text of a key ends, and which keys have a star.
use Rattle.std.proofs.Common.{◌≡◌, ◌≢◌, ℕ, ◌+◌, ◌<◌, ◌≤◌, ◌⊎◌, inl, inr, List, [], ◌∷◌, ◌++◌, length, get_or, lit<, sym, ap, subst, ◌∙◌, refl, arith, append_assoc, length-append}
use Rattle.lt_ranges.specs.declared.key.Key.{Key}
use Rattle.lt_ranges.specs.declared.key.Key.TheVariants.{Below, Bytes, After, Above}
use Rattle.lt_ranges.specs.KeyText.{byte_text, spelled, key_text}
use Rattle.lt_ranges.proofs.QuotingLaws.{same_front}
use Rattle.lt_trace.specs.Cut.{Lacks}
use Rattle.lt_trace.specs.Grammar.{HasKind}
use Rattle.lt_trace.proofs.CutLaws.{lacks_append, lacks_not, cut_once}
use Rattle.lt_trace.proofs.TextLaws.{byte_lacks}

-- no quotation mark stands inside, nor a newline
pub spelled_lacks : (b : ℕ) (bytes : List ℕ) → (b < 32) ⊎ (b ≡ 34) → Lacks b (spelled bytes)
spelled_lacks b [] special = tt
spelled_lacks b (byte ∷ bytes) special = lacks_append b (byte_text byte) (spelled bytes) (byte_lacks b byte special) (spelled_lacks b bytes special)

-- the text behind the first quotation mark is cut at the second
quoted_once : (bytes inside behind tail : List ℕ) → Lacks 34 inside → inside ++ 34 ∷ behind ≡ spelled bytes ++ 34 ∷ tail → (inside ≡ spelled bytes) × (behind ≡ tail)
quoted_once bytes inside behind tail lacks e = cut_once 34 inside (spelled bytes) behind tail lacks (spelled_lacks 34 bytes (inr refl)) e

-- a key's text that isn't quoted is one byte
pub len_unquoted : (key : Key) (rest text : List ℕ) → text ≡ key_text key ++ 32 ∷ rest → ((quoted : List ℕ) → text ≡ 34 ∷ quoted → ⊥) → length (key_text key) ≡ 1
len_unquoted Below rest text is other = refl
len_unquoted (Bytes bytes) rest text is other = absurd (other ((spelled bytes ++ 34 ∷ []) ++ 32 ∷ rest) is)
len_unquoted (After bytes) rest text is other = absurd (other (((spelled bytes ++ 34 ∷ []) ++ 42 ∷ []) ++ 32 ∷ rest) is)
len_unquoted Above rest text is other = refl

bytes_ahead : (bytes tail : List ℕ) → key_text (Bytes bytes) ++ tail ≡ 34 ∷ (spelled bytes ++ 34 ∷ tail)
bytes_ahead bytes tail = ap (λ xs. 34 ∷ xs) (append_assoc (spelled bytes) (34 ∷ []) tail)

after_ahead : (bytes tail : List ℕ) → key_text (After bytes) ++ tail ≡ 34 ∷ (spelled bytes ++ 34 ∷ 42 ∷ tail)
after_ahead bytes tail = append_assoc (key_text (Bytes bytes)) (42 ∷ []) tail ∙ bytes_ahead bytes (42 ∷ tail)

same_tail : (a b : ℕ) (xs ys : List ℕ) → a ∷ xs ≡ b ∷ ys → xs ≡ ys
same_tail a b xs ys e = cc

first : {xs ys : List ℕ} → xs ≡ ys → get_or xs 0 0 ≡ get_or ys 0 0
first e = ap (λ text. get_or text 0 0) e

differs : (b : ℕ) → 10 < b → b ≢ 10
differs b more = omega arith

same_head : (a b : ℕ) (xs ys : List ℕ) → a ∷ xs ≡ b ∷ ys → a ≡ b
same_head a b xs ys e = cc

-- a quoted text has a second quotation mark
pub quote_closes : (key : Key) (rest quoted : List ℕ) → 34 ∷ quoted ≡ key_text key ++ 32 ∷ rest → Lacks 34 quoted → ⊥
quote_closes Below rest quoted is lacks = absurd_mark (same_head 34 45 quoted (32 ∷ rest) is)
  where
    absurd_mark : ◌≡◌ {A = ℕ} 34 45 → ⊥
    absurd_mark e = omega arith
quote_closes (Bytes bytes) rest quoted is lacks =
    lacks_not 34 (spelled bytes) (32 ∷ rest) (subst (Lacks 34) (same_tail 34 34 quoted (spelled bytes ++ 34 ∷ 32 ∷ rest) (is ∙ bytes_ahead bytes (32 ∷ rest))) lacks)
quote_closes (After bytes) rest quoted is lacks =
    lacks_not 34 (spelled bytes) (42 ∷ 32 ∷ rest) (subst (Lacks 34) (same_tail 34 34 quoted (spelled bytes ++ 34 ∷ 42 ∷ 32 ∷ rest) (is ∙ after_ahead bytes (32 ∷ rest))) lacks)
quote_closes Above rest quoted is lacks = absurd_mark (same_head 34 43 quoted (32 ∷ rest) is)
  where
    absurd_mark : ◌≡◌ {A = ℕ} 34 43 → ⊥
    absurd_mark e = omega arith

-- what the key spells inside, and what stands behind its quotation marks
bytes_once : (bytes rest inside behind : List ℕ) → 34 ∷ inside ++ 34 ∷ behind ≡ key_text (Bytes bytes) ++ 32 ∷ rest → Lacks 34 inside → (inside ≡ spelled bytes) × (behind ≡ 32 ∷ rest)
bytes_once bytes rest inside behind is lacks =
    quoted_once bytes inside behind (32 ∷ rest) lacks (same_tail 34 34 _ _ (is ∙ bytes_ahead bytes (32 ∷ rest)))

after_once : (bytes rest inside behind : List ℕ) → 34 ∷ inside ++ 34 ∷ behind ≡ key_text (After bytes) ++ 32 ∷ rest → Lacks 34 inside → (inside ≡ spelled bytes) × (behind ≡ 42 ∷ 32 ∷ rest)
after_once bytes rest inside behind is lacks =
    quoted_once bytes inside behind (42 ∷ 32 ∷ rest) lacks (same_tail 34 34 _ _ (is ∙ after_ahead bytes (32 ∷ rest)))

length_bytes : (bytes : List ℕ) → length (key_text (Bytes bytes)) ≡ length (spelled bytes) + 2
length_bytes bytes = omega (arith, length-append (spelled bytes) (34 ∷ []))

length_after : (bytes : List ℕ) → length (key_text (After bytes)) ≡ length (spelled bytes) + 2 + 1
length_after bytes = omega (arith, length_bytes bytes, length-append (key_text (Bytes bytes)) (42 ∷ []))

-- behind them stands a space, or a star and a space
pub len_closed : (key : Key) (rest inside behind : List ℕ) → 34 ∷ inside ++ 34 ∷ behind ≡ key_text key ++ 32 ∷ rest → Lacks 34 inside → ((more : List ℕ) → behind ≡ 42 ∷ more → ⊥) → length inside + 2 ≡ length (key_text key)
len_closed Below rest inside behind is lacks other = absurd (mark (same_head 34 45 _ _ is))
  where
    mark : ◌≡◌ {A = ℕ} 34 45 → ⊥
    mark e = omega arith
len_closed (Bytes bytes) rest inside behind is lacks other =
    ap (λ xs. length xs + 2) (bytes_once bytes rest inside behind is lacks).0 ∙ sym (length_bytes bytes)
len_closed (After bytes) rest inside behind is lacks other = absurd (other (32 ∷ rest) (after_once bytes rest inside behind is lacks).1)
len_closed Above rest inside behind is lacks other = absurd (mark (same_head 34 43 _ _ is))
  where
    mark : ◌≡◌ {A = ℕ} 34 43 → ⊥
    mark e = omega arith

pub len_starred : (key : Key) (rest inside more : List ℕ) → 34 ∷ inside ++ 34 ∷ 42 ∷ more ≡ key_text key ++ 32 ∷ rest → Lacks 34 inside → length inside + 2 + 1 ≡ length (key_text key)
len_starred Below rest inside more is lacks = absurd (mark (same_head 34 45 _ _ is))
  where
    mark : ◌≡◌ {A = ℕ} 34 45 → ⊥
    mark e = omega arith
len_starred (Bytes bytes) rest inside more is lacks = absurd (mark (same_head 42 32 _ _ (bytes_once bytes rest inside (42 ∷ more) is lacks).1))
  where
    mark : ◌≡◌ {A = ℕ} 42 32 → ⊥
    mark e = omega arith
len_starred (After bytes) rest inside more is lacks =
    ap (λ xs. length xs + 2 + 1) (after_once bytes rest inside (42 ∷ more) is lacks).0 ∙ sym (length_after bytes)
len_starred Above rest inside more is lacks = absurd (mark (same_head 34 43 _ _ is))
  where
    mark : ◌≡◌ {A = ℕ} 34 43 → ⊥
    mark e = omega arith

-- the text of a prefix endpoint ends with a star
pub star_of_after : (bytes : List ℕ) → key_text (After bytes) ≡ (34 ∷ spelled bytes ++ 34 ∷ []) ++ 42 ∷ []
star_of_after bytes = refl

-- and no other does
pub star_needs : (version : ℕ) (key : Key) (front : List ℕ) → HasKind version key → key_text key ≡ front ++ 42 ∷ [] → 2 ≤ version
star_needs version Below front kind is = let e : ◌≡◌ {A = ℕ} 45 42 = (same_front [] front 45 42 is).1 in absurd (omega arith)
star_needs version (Bytes bytes) front kind is = let e : ◌≡◌ {A = ℕ} 34 42 = (same_front (34 ∷ spelled bytes) front 34 42 is).1 in absurd (omega arith)
star_needs version (After bytes) front kind is = kind
star_needs version Above front kind is = let e : ◌≡◌ {A = ℕ} 43 42 = (same_front [] front 43 42 is).1 in absurd (omega arith)

pub kind_without_star : (version : ℕ) (key : Key) → ((front : List ℕ) → key_text key ≡ front ++ 42 ∷ [] → ⊥) → HasKind version key
kind_without_star version Below other = tt
kind_without_star version (Bytes bytes) other = tt
kind_without_star version (After bytes) other = absurd (other (34 ∷ spelled bytes ++ 34 ∷ []) refl)
kind_without_star version Above other = tt

pub kind_of_later : (version : ℕ) (key : Key) → 2 ≤ version → HasKind version key
kind_of_later version Below later = tt
kind_of_later version (Bytes bytes) later = tt
kind_of_later version (After bytes) later = later
kind_of_later version Above later = tt

-- two keys with a space and more behind them
pub key_cut : (x y : Key) (r s : List ℕ) → key_text x ++ 32 ∷ r ≡ key_text y ++ 32 ∷ s → (key_text x ≡ key_text y) × (r ≡ s)
key_cut Below Below r s e = (refl, same_tail 32 32 r s (same_tail 45 45 (32 ∷ r) (32 ∷ s) e))
key_cut Below (Bytes ys) r s e = absurd (omega (arith, first e))
key_cut Below (After ys) r s e = absurd (omega (arith, first e))
key_cut Below Above r s e = absurd (omega (arith, first e))
key_cut (Bytes xs) Below r s e = absurd (omega (arith, first e))
key_cut (Bytes xs) (Bytes ys) r s e =
    let once = bytes_once ys s (spelled xs) (32 ∷ r) (sym (bytes_ahead xs (32 ∷ r)) ∙ e) (spelled_lacks 34 xs (inr refl)) in
    (ap (λ text. 34 ∷ text ++ 34 ∷ []) once.0, same_tail 32 32 r s once.1)
key_cut (Bytes xs) (After ys) r s e =
    let once = after_once ys s (spelled xs) (32 ∷ r) (sym (bytes_ahead xs (32 ∷ r)) ∙ e) (spelled_lacks 34 xs (inr refl)) in
    absurd (omega (arith, first once.1))
key_cut (Bytes xs) Above r s e = absurd (omega (arith, first e))
key_cut (After xs) Below r s e = absurd (omega (arith, first e))
key_cut (After xs) (Bytes ys) r s e =
    let once = bytes_once ys s (spelled xs) (42 ∷ 32 ∷ r) (sym (after_ahead xs (32 ∷ r)) ∙ e) (spelled_lacks 34 xs (inr refl)) in
    absurd (omega (arith, first once.1))
key_cut (After xs) (After ys) r s e =
    let once = after_once ys s (spelled xs) (42 ∷ 32 ∷ r) (sym (after_ahead xs (32 ∷ r)) ∙ e) (spelled_lacks 34 xs (inr refl)) in
    (ap (λ text. (34 ∷ text ++ 34 ∷ []) ++ 42 ∷ []) once.0, same_tail 32 32 r s (same_tail 42 42 (32 ∷ r) (32 ∷ s) once.1))
key_cut (After xs) Above r s e = absurd (omega (arith, first e))
key_cut Above Below r s e = absurd (omega (arith, first e))
key_cut Above (Bytes ys) r s e = absurd (omega (arith, first e))
key_cut Above (After ys) r s e = absurd (omega (arith, first e))
key_cut Above Above r s e = (refl, same_tail 32 32 r s (same_tail 43 43 (32 ∷ r) (32 ∷ s) e))

-- no newline stands in a key's text
key_lacks_bytes : (bytes : List ℕ) → Lacks 10 (key_text (Bytes bytes))
key_lacks_bytes bytes = (differs 34 (omega arith), lacks_append 10 (spelled bytes) (34 ∷ []) (spelled_lacks 10 bytes (inl (lit< tt))) (differs 34 (omega arith), tt))

pub key_lacks : (key : Key) → Lacks 10 (key_text key)
key_lacks Below = (differs 45 (omega arith), tt)
key_lacks (Bytes bytes) = key_lacks_bytes bytes
key_lacks (After bytes) = lacks_append 10 (key_text (Bytes bytes)) (42 ∷ []) (key_lacks_bytes bytes) (differs 42 (omega arith), tt)
key_lacks Above = (differs 43 (omega arith), tt)
