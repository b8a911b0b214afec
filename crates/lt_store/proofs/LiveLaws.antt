-- Lists of live transactions with one of them in the middle.
use Rattle.std.proofs.Common.{◌≡◌, ◌≢◌, ℕ, ◌+◌, ◌<◌, List, [], ◌∷◌, ◌++◌, map, length, ◌⊎◌, inl, inr, refl, sym, ap, subst, ◌∙◌, arith}
use Rattle.lt_store.specs.declared.done.Done.{Done}
use Rattle.lt_store.specs.Clear.{AreClearOf, AreClearOfAll, AllAreClearOf}
use Rattle.lt_store.specs.Book.{Acts, In, dones, AllAbove, Ascends, count_done}

pub in_middle : (before : List Acts) (a : Acts) (behind : List Acts) → In (before ++ a ∷ behind) a
in_middle [] a behind = inl refl
in_middle (x ∷ xs) a behind = inr (in_middle xs a behind)

pub in_others : (before : List Acts) (a : Acts) (behind : List Acts) (x : Acts) → In (before ++ behind) x → In (before ++ a ∷ behind) x
in_others [] a behind x h = inr h
in_others (y ∷ ys) a behind x h = elim h [ inl e ↦ inl e | inr k ↦ inr (in_others ys a behind x k) ]

pub in_changed : (before : List Acts) (a : Acts) (behind : List Acts) (x : Acts) → In (before ++ a ∷ behind) x → (a ≡ x) ⊎ In (before ++ behind) x
in_changed [] a behind x h = h
in_changed (y ∷ ys) a behind x h = elim h [
  | inl e ↦ inr (inl e)
  | inr k ↦ elim (in_changed ys a behind x k) [ inl e ↦ inl e | inr m ↦ inr (inr m) ]
]

in_front : (xs ys : List Acts) (a : Acts) → In xs a → In (xs ++ ys) a
in_front [] ys a h = absurd h
in_front (x ∷ xs) ys a h = elim h [ inl e ↦ inl e | inr k ↦ inr (in_front xs ys a k) ]

in_back : (xs ys : List Acts) (a : Acts) → In ys a → In (xs ++ ys) a
in_back [] ys a h = h
in_back (x ∷ xs) ys a h = inr (in_back xs ys a h)

pub in_before : (before behind : List Acts) (a : Acts) → In before a → In (before ++ behind) a
in_before before behind a h = in_front before behind a h

pub in_behind : (before behind : List Acts) (a : Acts) → In behind a → In (before ++ behind) a
in_behind before behind a h = in_back before behind a h

pub dones-append : (xs ys : List Acts) → dones (xs ++ ys) ≡ dones xs ++ dones ys
dones-append [] ys = refl
dones-append (x ∷ xs) ys = ap (λ (l : List (List Done)). x.done ∷ l) (dones-append xs ys)

pub count-append : (xs ys : List Acts) → count_done (xs ++ ys) ≡ count_done xs + count_done ys
count-append [] ys = omega arith
count-append (x ∷ xs) ys = let rest = count-append xs ys in omega (arith, rest)

-- what holds of each holds of the list
pub clear_each : (puts : List Done) (xs : List Acts) → ((x : Acts) → In xs x → AreClearOf puts x.done) → AreClearOfAll puts (dones xs)
clear_each puts [] h = tt
clear_each puts (x ∷ xs) h = (h x (inl refl), clear_each puts xs (λ y k. h y (inr k)))

pub each_clear : (xs : List Acts) (ops : List Done) → ((x : Acts) → In xs x → AreClearOf x.done ops) → AllAreClearOf (dones xs) ops
each_clear [] ops h = tt
each_clear (x ∷ xs) ops h = (h x (inl refl), each_clear xs ops (λ y k. h y (inr k)))

-- ascending numbers are all different
above_in : (txn : ℕ) (xs : List Acts) (a : Acts) → AllAbove txn xs → In xs a → txn < a.txn
above_in txn [] a h k = absurd k
above_in txn (x ∷ xs) a h k = elim k [ inl e ↦ subst (λ (y : Acts). txn < y.txn) e h.0 | inr m ↦ above_in txn xs a h.1 m ]

above_without : (txn : ℕ) (before : List Acts) (a : Acts) (behind : List Acts) → AllAbove txn (before ++ a ∷ behind) → AllAbove txn (before ++ behind)
above_without txn [] a behind h = h.1
above_without txn (x ∷ xs) a behind h = (h.0, above_without txn xs a behind h.1)

above_changed : (txn : ℕ) (before : List Acts) (a b : Acts) (behind : List Acts) → a.txn ≡ b.txn → AllAbove txn (before ++ a ∷ behind) → AllAbove txn (before ++ b ∷ behind)
above_changed txn [] a b behind e h = (subst (λ (n : ℕ). txn < n) e h.0, h.1)
above_changed txn (x ∷ xs) a b behind e h = (h.0, above_changed txn xs a b behind e h.1)

pub ascends_without : (before : List Acts) (a : Acts) (behind : List Acts) → Ascends (before ++ a ∷ behind) → Ascends (before ++ behind)
ascends_without [] a behind h = h.1
ascends_without (x ∷ xs) a behind h = (above_without x.txn xs a behind h.0, ascends_without xs a behind h.1)

pub ascends_changed : (before : List Acts) (a b : Acts) (behind : List Acts) → a.txn ≡ b.txn → Ascends (before ++ a ∷ behind) → Ascends (before ++ b ∷ behind)
ascends_changed [] a b behind e h = (subst (λ (n : ℕ). AllAbove n behind) e h.0, h.1)
ascends_changed (x ∷ xs) a b behind e h = (above_changed x.txn xs a b behind e h.0, ascends_changed xs a b behind e h.1)

pub others_differ : (before : List Acts) (a : Acts) (behind : List Acts) (x : Acts) → Ascends (before ++ a ∷ behind) → In (before ++ behind) x → x.txn ≢ a.txn
others_differ [] a behind x h k same = let lt = above_in a.txn behind x h.0 k in omega (arith, lt, same)
others_differ (y ∷ ys) a behind x h k same = elim k [
  | inl e ↦ (let lt = above_in y.txn (ys ++ a ∷ behind) a h.0 (in_middle ys a behind) in omega (arith, lt, same, ap (λ (z : Acts). z.txn) e))
  | inr m ↦ others_differ ys a behind x h.1 m same
]
