-- Members of lists of pairs. Lawful lists with the same members are equal.
use Rattle.std.proofs.Common.{◌≡◌, ◌⊎◌, inl, inr, List, [], ◌∷◌, ◌++◌, map, Bool, true, false, if◌then◌else◌, refl, sym, ap, ap₂, ◌∙◌, arith}
use Rattle.std.specs.List.{filter}
use Rattle.lt_ranges.specs.Key.{key_le}
use Rattle.lt_ranges.specs.Interval.{Interval, IsInterval, overlap, before}
use Rattle.lt_ranges.proofs.IntervalLaws.{before_trans}
use Rattle.lt_seq.specs.declared.event.Pair.{Pair}
use Rattle.lt_seq.specs.Pairs.{AllAfter, IsLawful, with_pair}
use Rattle.lt_seq.proofs.PairsLaws.{IsClear}
use Rattle.lt_forest.specs.Pairs.{Has}

pub map_app : {A B : Type 0} (f : A → B) (xs ys : List A) → map f (xs ++ ys) ≡ map f xs ++ map f ys
map_app f [] ys = refl
map_app f (x ∷ xs) ys = ap (λ l. f x ∷ l) (map_app f xs ys)

-- members

pub has_left : (p : Pair) (xs ys : List Pair) → Has p xs → Has p (xs ++ ys)
has_left p [] ys h = absurd h
has_left p (x ∷ xs) ys h = elim h [ inl e ↦ inl e | inr k ↦ inr (has_left p xs ys k) ]

pub has_right : (p : Pair) (xs ys : List Pair) → Has p ys → Has p (xs ++ ys)
has_right p [] ys h = h
has_right p (x ∷ xs) ys h = inr (has_right p xs ys h)

pub has_either : (p : Pair) (xs ys : List Pair) → Has p (xs ++ ys) → Has p xs ⊎ Has p ys
has_either p [] ys h = inr h
has_either p (x ∷ xs) ys h = elim h [
  | inl e ↦ inl (inl e)
  | inr k ↦ elim (has_either p xs ys k) [ inl l ↦ inl (inr l) | inr l ↦ inr l ]
]

pub after_has : (range : Interval) (p : Pair) (xs : List Pair) → AllAfter range xs → Has p xs → before range p.range ≡ true
after_has range p [] all h = absurd h
after_has range p (x ∷ xs) all h = elim h [
  | inl e ↦ ap (λ (q : Pair). before range q.range) e ∙ all.0
  | inr k ↦ after_has range p xs all.1 k
]

pub lawful_has : (p : Pair) (xs : List Pair) → IsLawful xs → Has p xs → IsInterval p.range
lawful_has p [] lawful h = absurd h
lawful_has p (x ∷ xs) lawful h = elim h [
  | inl e ↦ ap (λ (q : Pair). key_le q.range.left q.range.right) e ∙ lawful.0
  | inr k ↦ lawful_has p xs lawful.2 k
]

pub clear_has : (range : Interval) (p : Pair) (xs : List Pair) → IsClear range xs → Has p xs → overlap p.range range ≡ false
clear_has range p [] clear h = absurd h
clear_has range p (x ∷ xs) clear h = elim h [
  | inl e ↦ ap (λ (q : Pair). overlap q.range range) e ∙ clear.0
  | inr k ↦ clear_has range p xs clear.1 k
]

pub clear_by : (range : Interval) (xs : List Pair) → ((p : Pair) → Has p xs → overlap p.range range ≡ false) → IsClear range xs
clear_by range [] all = tt
clear_by range (x ∷ xs) all = (all x (inl refl), clear_by range xs (λ p h. all p (inr h)))

-- nothing comes before itself, nor do two ranges come before each other

not_before : (a : Interval) → IsInterval a → before a a ≡ true → ⊥
not_before a o h = grind (arith, o, h)

not_mutual : (a b : Interval) → IsInterval a → IsInterval b → before a b ≡ true → before b a ≡ true → ⊥
not_mutual a b o p h k = not_before a o (before_trans a b a h p k)

abbrev AllIn : List Pair → List Pair → Type 0
AllIn xs ys = (p : Pair) → Has p xs → Has p ys

tails : (x y : Pair) (xs ys : List Pair) → x ≡ y → IsInterval x.range → AllAfter x.range xs → AllIn (x ∷ xs) (y ∷ ys) → AllIn xs ys
tails x y xs ys is o all same p h = elim (same p (inr h)) [
  | inl e ↦ absurd (not_before x.range o (ap (λ (q : Pair). before x.range q.range) (is ∙ sym e) ∙ after_has x.range p xs all h))
  | inr k ↦ k
]

-- lawful lists with the same members are equal
pub one_list : (xs ys : List Pair) → IsLawful xs → IsLawful ys
    → ((p : Pair) → Has p xs → Has p ys) → ((p : Pair) → Has p ys → Has p xs) → xs ≡ ys
one_list [] [] lx ly a b = refl
one_list [] (y ∷ ys) lx ly a b = absurd (b y (inl refl))
one_list (x ∷ xs) [] lx ly a b = absurd (a x (inl refl))
one_list (x ∷ xs) (y ∷ ys) lx ly a b =
    let is : x ≡ y = elim (a x (inl refl)) [
      | inl e ↦ e
      | inr h ↦ elim (b y (inl refl)) [
        | inl e ↦ sym e
        | inr k ↦ absurd (not_mutual x.range y.range lx.0 ly.0 (after_has x.range y xs lx.1 k) (after_has y.range x ys ly.1 h))
      ]
    ] in
    ap₂ (λ (z : Pair) (l : List Pair). z ∷ l) is
    (one_list xs ys lx.2 ly.2 (tails x y xs ys is lx.0 lx.1 a) (tails y x ys xs (sym is) ly.0 ly.1 b))

-- members of what is put in and of what is left out

with_one : (p new x : Pair) (xs rest : List Pair) (b : Bool) → (Has p rest → (p ≡ new) ⊎ Has p xs)
    → Has p (if b then x ∷ rest else new ∷ x ∷ xs) → (p ≡ new) ⊎ ((p ≡ x) ⊎ Has p xs)
with_one p new x xs rest true more h = elim h [
  | inl e ↦ inr (inl e)
  | inr k ↦ elim (more k) [ inl e ↦ inl e | inr l ↦ inr (inr l) ]
]
with_one p new x xs rest false more h = h

one_with : (p new x : Pair) (xs rest : List Pair) (b : Bool) → ((p ≡ new) ⊎ Has p xs → Has p rest)
    → (p ≡ new) ⊎ ((p ≡ x) ⊎ Has p xs) → Has p (if b then x ∷ rest else new ∷ x ∷ xs)
one_with p new x xs rest true more h = elim h [
  | inl e ↦ inr (more (inl e))
  | inr k ↦ elim k [ inl e ↦ inl e | inr l ↦ inr (more (inr l)) ]
]
one_with p new x xs rest false more h = h

pub has_with : (p new : Pair) (xs : List Pair) → Has p (with_pair new xs) → (p ≡ new) ⊎ Has p xs
has_with p new [] h = h
has_with p new (x ∷ xs) h =
    with_one p new x xs (with_pair new xs) (key_le x.range.left new.range.left) (has_with p new xs) h

pub with_has : (p new : Pair) (xs : List Pair) → (p ≡ new) ⊎ Has p xs → Has p (with_pair new xs)
with_has p new [] h = h
with_has p new (x ∷ xs) h =
    one_with p new x xs (with_pair new xs) (key_le x.range.left new.range.left) (with_has p new xs) h

pub differ : (b : Bool) → b ≡ true → b ≡ false → ⊥
differ true h k = cc
differ false h k = cc

filter_one : (f : Pair → Bool) (p x : Pair) (xs rest : List Pair) (b : Bool) → f x ≡ b → (Has p rest → Has p xs × (f p ≡ true))
    → Has p (if b then x ∷ rest else rest) → ((p ≡ x) ⊎ Has p xs) × (f p ≡ true)
filter_one f p x xs rest true is more h = elim h [ inl e ↦ (inl e, ap f e ∙ is) | inr k ↦ let r = more k in (inr r.0, r.1) ]
filter_one f p x xs rest false is more h = let r = more h in (inr r.0, r.1)

one_filter : (f : Pair → Bool) (p x : Pair) (xs rest : List Pair) (b : Bool) → f x ≡ b → f p ≡ true → (Has p xs → Has p rest)
    → (p ≡ x) ⊎ Has p xs → Has p (if b then x ∷ rest else rest)
one_filter f p x xs rest true is k more h = elim h [ inl e ↦ inl e | inr l ↦ inr (more l) ]
one_filter f p x xs rest false is k more h = elim h [ inl e ↦ absurd (differ (f x) (ap f (sym e) ∙ k) is) | inr l ↦ more l ]

pub has_filter : (f : Pair → Bool) (p : Pair) (xs : List Pair) → Has p (filter f xs) → Has p xs × (f p ≡ true)
has_filter f p [] h = absurd h
has_filter f p (x ∷ xs) h = filter_one f p x xs (filter f xs) (f x) refl (has_filter f p xs) h

pub filter_has : (f : Pair → Bool) (p : Pair) (xs : List Pair) → f p ≡ true → Has p xs → Has p (filter f xs)
filter_has f p [] k h = absurd h
filter_has f p (x ∷ xs) k h = one_filter f p x xs (filter f xs) (f x) refl k (filter_has f p xs k) h

-- nothing is found where nothing overlaps

leaves : (x : Pair) (rest : List Pair) (b : Bool) → b ≡ false → rest ≡ [] → (if b then x ∷ rest else rest) ≡ []
leaves x rest true is none = absurd (differ true refl is)
leaves x rest false is none = none

pub not_over : (f o : Bool) → (f ≡ true → o ≡ true) → o ≡ false → f ≡ false
not_over true o h k = absurd (differ o (h refl) k)
not_over false o h k = refl

pub filter_clear : (f : Pair → Bool) (range : Interval) (xs : List Pair)
    → ((p : Pair) → f p ≡ true → overlap p.range range ≡ true) → IsClear range xs → filter f xs ≡ []
filter_clear f range [] over clear = refl
filter_clear f range (x ∷ xs) over clear =
    leaves x (filter f xs) (f x) (not_over (f x) (overlap x.range range) (over x) clear.0) (filter_clear f range xs over clear.1)

app_one : (x : Pair) (l xs ys : List Pair) (b : Bool) → l ≡ xs ++ ys
    → (if b then x ∷ l else l) ≡ (if b then x ∷ xs else xs) ++ ys
app_one x l xs ys true e = ap (λ l. x ∷ l) e
app_one x l xs ys false e = e

pub filter_app : (f : Pair → Bool) (xs ys : List Pair) → filter f (xs ++ ys) ≡ filter f xs ++ filter f ys
filter_app f [] ys = refl
filter_app f (x ∷ xs) ys = app_one x (filter f (xs ++ ys)) (filter f xs) (filter f ys) (f x) (filter_app f xs ys)

-- a lawful list in two

after_left : (range : Interval) (xs ys : List Pair) → AllAfter range (xs ++ ys) → AllAfter range xs
after_left range [] ys all = tt
after_left range (x ∷ xs) ys all = (all.0, after_left range xs ys all.1)

after_app : (range : Interval) (xs ys : List Pair) → AllAfter range xs → AllAfter range ys → AllAfter range (xs ++ ys)
after_app range [] ys a b = b
after_app range (x ∷ xs) ys a b = (a.0, after_app range xs ys a.1 b)

pub after_by : (range : Interval) (xs : List Pair) → ((p : Pair) → Has p xs → before range p.range ≡ true) → AllAfter range xs
after_by range [] all = tt
after_by range (x ∷ xs) all = (all x (inl refl), after_by range xs (λ p h. all p (inr h)))

pub lawful_left : (xs ys : List Pair) → IsLawful (xs ++ ys) → IsLawful xs
lawful_left [] ys lawful = tt
lawful_left (x ∷ xs) ys lawful = (lawful.0, after_left x.range xs ys lawful.1, lawful_left xs ys lawful.2)

pub lawful_right : (xs ys : List Pair) → IsLawful (xs ++ ys) → IsLawful ys
lawful_right [] ys lawful = lawful
lawful_right (x ∷ xs) ys lawful = lawful_right xs ys lawful.2

pub lawful_cross : (p q : Pair) (xs ys : List Pair) → IsLawful (xs ++ ys) → Has p xs → Has q ys → before p.range q.range ≡ true
lawful_cross p q [] ys lawful h k = absurd h
lawful_cross p q (x ∷ xs) ys lawful h k = elim h [
  | inl e ↦ ap (λ (z : Pair). before z.range q.range) e ∙ after_has x.range q (xs ++ ys) lawful.1 (has_right q xs ys k)
  | inr l ↦ lawful_cross p q xs ys lawful.2 l k
]

pub lawful_app : (xs ys : List Pair) → IsLawful xs → IsLawful ys
    → ((p q : Pair) → Has p xs → Has q ys → before p.range q.range ≡ true) → IsLawful (xs ++ ys)
lawful_app [] ys a b cross = b
lawful_app (x ∷ xs) ys a b cross = (
  a.0,
  after_app x.range xs ys a.1 (after_by x.range ys (λ q h. cross x q (inl refl) h)),
  lawful_app xs ys a.2 b (λ p q h k. cross p q (inr h) k),
)

-- no pair stands on both sides of a lawful list
pub no_two : (p : Pair) (xs ys : List Pair) → IsLawful (xs ++ ys) → Has p xs → Has p ys → ⊥
no_two p xs ys lawful h k =
    not_before p.range (lawful_has p (xs ++ ys) lawful (has_left p xs ys h)) (lawful_cross p p xs ys lawful h k)
