-- A cut filled with the trees that hang: its rows, pairs, order and gaps.
use Rattle.std.proofs.Common.{◌≡◌, ◌⊎◌, inl, inr, ℕ, zero, suc, ◌+◌, List, [], ◌∷◌, ◌++◌, map, length, length-append, Bool, true, false, sym, ap, ap₂, ◌∙◌, subst, arith}
use Rattle.std.specs.Prelude.{Some, None}
use Rattle.std.specs.List.{filter}
use Rattle.lt_ranges.specs.declared.key.Key.{Key}
use Rattle.lt_ranges.specs.Key.{key_le}
use Rattle.lt_ranges.specs.Interval.{Interval, overlap}
use Rattle.lt_ranges.proofs.IntervalLaws.{before-overlap, overlap_back}
use Rattle.lt_seq.specs.declared.event.Pair.{Pair}
use Rattle.lt_seq.specs.Pairs.{IsLawful}
use Rattle.lt_forest.specs.Counts.{times}
use Rattle.lt_forest.specs.Pairs.{Has}
use Rattle.lt_forest.specs.Bounds.{Bound, Gap}
use Rattle.lt_forest.specs.Trees.{Tree, leaf, Nodes, pair_of, left_end, right_end, in_order, pairs_in, IsOrdered, HasGap}
use Rattle.lt_forest.specs.Cuts.{Cut, end, held, fill, bare, IsRow, links, HasCutGap, End, ends, AllEnds, Looser, EndsBefore, BeginsBehind, IsAside, AllAside}
use Rattle.lt_forest.proofs.BoundLaws.{lt_le, le_lt}
use Rattle.lt_forest.proofs.PairLists.{map_app, has_left, has_right, has_either, clear_by, filter_app, filter_clear, lawful_left, lawful_right, no_two}
use Rattle.lt_forest.proofs.TreeLaws.{Agree, ordered_stays, gap_stays}
use Rattle.lt_forest.proofs.LawfulTrees.{pairs_in-node, has_node, node_has, all_inside}
use Rattle.lt_forest.proofs.SameRows.{times-++, one_equal, AgreeOn, on_left, on_right, on_tree}
use Rattle.lt_forest.proofs.EndLaws.{all_app, all_left, all_right, aside_at, links_of, links_of-ends}

-- the rows that hang below these links
abbrev pub hung : (ℕ → Tree) → List ℕ → List ℕ
hung H [] = []
hung H (l ∷ ls) = in_order (H l) ++ hung H ls

-- and their pairs
abbrev pub hung_pairs : Nodes → (ℕ → Tree) → List ℕ → List Pair
hung_pairs c H ls = map (pair_of c) (hung H ls)

-- the trees that hang at these ends are in order
abbrev pub AllOrdered : Nodes → (ℕ → Tree) → List End → Type 0
AllOrdered c H es = AllEnds (λ e. IsOrdered c (H e.0) e.1 e.2) es

-- and their rows hold the same
abbrev pub AgreeEnds : Nodes → Nodes → (ℕ → Tree) → List End → Type 0
AgreeEnds c d H es = AllEnds (λ e. Agree c d (H e.0)) es

-- the row q stands in a tree that hangs, and g lies within its gap
abbrev pub InEnds : Nodes → (ℕ → Tree) → List End → ℕ → Gap → Type 0
InEnds c H [] q g = ⊥
InEnds c H (e ∷ es) q g = HasGap c (H e.0) e.1 e.2 q g ⊎ InEnds c H es q g

module _ (H : ℕ → Tree) (empty : H 0 ≡ leaf) where
  -- rows

  times-hung : (xs ys : List ℕ) (q : ℕ) → times q (hung H (xs ++ ys)) ≡ times q (hung H xs) + times q (hung H ys)
  times-hung [] ys q = omega arith
  times-hung (x ∷ xs) ys q =
      let t = times-hung xs ys q in
      let u = times-++ q (in_order (H x)) (hung H xs) in
      let v = times-++ q (in_order (H x)) (hung H (xs ++ ys)) in
      omega arith

  -- a row of the filled cut is one of the cut's or hangs
  pub times-fill : (cut : Cut) (q : ℕ)
      → times q (in_order (fill H cut)) ≡ times q (in_order (bare cut)) + times q (hung H (links cut))
  times-fill (end zero) q = ap (λ (t : Tree). times q (in_order t)) empty
  times-fill (end (suc l)) q = let t = times-++ q (in_order (H (suc l))) [] in omega arith
  times-fill (held a r b) q =
      let s = times-++ q (in_order (fill H a)) (r ∷ in_order (fill H b)) in
      let t = times-++ q (in_order (bare a)) (r ∷ in_order (bare b)) in
      let u = times-hung (links a) (links b) q in
      let l = times-fill a q in
      let m = times-fill b q in
      omega arith

  length-hung : (xs ys : List ℕ) → length (hung H (xs ++ ys)) ≡ length (hung H xs) + length (hung H ys)
  length-hung [] ys = omega arith
  length-hung (x ∷ xs) ys =
      let t = length-hung xs ys in
      omega (arith, length-append (in_order (H x)) (hung H xs), length-append (in_order (H x)) (hung H (xs ++ ys)))

  pub length-fill : (cut : Cut) → length (in_order (fill H cut)) ≡ length (in_order (bare cut)) + length (hung H (links cut))
  length-fill (end zero) = ap (λ (t : Tree). length (in_order t)) empty
  length-fill (end (suc l)) = omega (arith, length-append (in_order (H (suc l))) [])
  length-fill (held a r b) =
      let u = length-hung (links a) (links b) in
      let l = length-fill a in
      let m = length-fill b in
      omega (arith, length-append (in_order (fill H a)) (r ∷ in_order (fill H b)), length-append (in_order (bare a)) (r ∷ in_order (bare b)))

  -- pairs

  hung_pairs-node : (c : Nodes) (x : ℕ) (xs : List ℕ) → hung_pairs c H (x ∷ xs) ≡ pairs_in c (H x) ++ hung_pairs c H xs
  hung_pairs-node c x xs = map_app (pair_of c) (in_order (H x)) (hung H xs)

  hung_app_has : (c : Nodes) (p : Pair) (xs ys : List ℕ)
      → Has p (hung_pairs c H xs) ⊎ Has p (hung_pairs c H ys) → Has p (hung_pairs c H (xs ++ ys))
  hung_app_has c p [] ys h = elim h [ inl k ↦ absurd k | inr k ↦ k ]
  hung_app_has c p (x ∷ xs) ys h = subst (Has p) (sym (hung_pairs-node c x (xs ++ ys))) (elim h [
    | inl k ↦ elim (has_either p (pairs_in c (H x)) (hung_pairs c H xs) (subst (Has p) (hung_pairs-node c x xs) k)) [
      | inl m ↦ has_left p (pairs_in c (H x)) (hung_pairs c H (xs ++ ys)) m
      | inr m ↦ has_right p (pairs_in c (H x)) (hung_pairs c H (xs ++ ys)) (hung_app_has c p xs ys (inl m))
    ]
    | inr k ↦ has_right p (pairs_in c (H x)) (hung_pairs c H (xs ++ ys)) (hung_app_has c p xs ys (inr k))
  ])

  has_hung_app : (c : Nodes) (p : Pair) (xs ys : List ℕ)
      → Has p (hung_pairs c H (xs ++ ys)) → Has p (hung_pairs c H xs) ⊎ Has p (hung_pairs c H ys)
  has_hung_app c p [] ys h = inr h
  has_hung_app c p (x ∷ xs) ys h =
      elim (has_either p (pairs_in c (H x)) (hung_pairs c H (xs ++ ys)) (subst (Has p) (hung_pairs-node c x (xs ++ ys)) h)) [
        | inl m ↦ inl (subst (Has p) (sym (hung_pairs-node c x xs)) (has_left p (pairs_in c (H x)) (hung_pairs c H xs) m))
        | inr m ↦ elim (has_hung_app c p xs ys m) [
          | inl k ↦ inl (subst (Has p) (sym (hung_pairs-node c x xs)) (has_right p (pairs_in c (H x)) (hung_pairs c H xs) k))
          | inr k ↦ inr k
        ]
      ]

  pub has_fill : (c : Nodes) (cut : Cut) (p : Pair)
      → Has p (pairs_in c (fill H cut)) → Has p (pairs_in c (bare cut)) ⊎ Has p (hung_pairs c H (links cut))
  has_fill c (end zero) p h = absurd (subst (λ (t : Tree). Has p (pairs_in c t)) empty h)
  has_fill c (end (suc l)) p h = inr (subst (Has p) (sym (hung_pairs-node c (suc l) [])) (has_left p (pairs_in c (H (suc l))) [] h))
  has_fill c (held a r b) p h = elim (has_node c (fill H a) (fill H b) r p h) [
    | inl k ↦ elim (has_fill c a p k) [
      | inl m ↦ inl (node_has c (bare a) (bare b) r p (inl m))
      | inr m ↦ inr (hung_app_has c p (links a) (links b) (inl m))
    ]
    | inr k ↦ elim k [
      | inl e ↦ inl (node_has c (bare a) (bare b) r p (inr (inl e)))
      | inr l ↦ elim (has_fill c b p l) [
        | inl m ↦ inl (node_has c (bare a) (bare b) r p (inr (inr m)))
        | inr m ↦ inr (hung_app_has c p (links a) (links b) (inr m))
      ]
    ]
  ]

  pub fill_has : (c : Nodes) (cut : Cut) (p : Pair)
      → Has p (pairs_in c (bare cut)) ⊎ Has p (hung_pairs c H (links cut)) → Has p (pairs_in c (fill H cut))
  fill_has c (end zero) p h = elim h [ inl k ↦ absurd k | inr k ↦ absurd k ]
  fill_has c (end (suc l)) p h = elim h [
    | inl k ↦ absurd k
    | inr k ↦ elim (has_either p (pairs_in c (H (suc l))) [] (subst (Has p) (hung_pairs-node c (suc l) []) k)) [
      | inl m ↦ m
      | inr m ↦ absurd m
    ]
  ]
  fill_has c (held a r b) p h = node_has c (fill H a) (fill H b) r p (elim h [
    | inl k ↦ elim (has_node c (bare a) (bare b) r p k) [
      | inl m ↦ inl (fill_has c a p (inl m))
      | inr m ↦ elim m [ inl e ↦ inr (inl e) | inr m ↦ inr (inr (fill_has c b p (inl m))) ]
    ]
    | inr k ↦ elim (has_hung_app c p (links a) (links b) k) [
      | inl m ↦ inl (fill_has c a p (inr m))
      | inr m ↦ inr (inr (fill_has c b p (inr m)))
    ]
  ])

  -- what is shown doesn't hang
  pub not_hung : (c : Nodes) (cut : Cut) (p : Pair) → IsLawful (pairs_in c (fill H cut))
      → Has p (pairs_in c (bare cut)) → Has p (hung_pairs c H (links cut)) → ⊥
  not_hung c (end l) p lawful h k = absurd h
  not_hung c (held a r b) p lawful h k =
      let low : List Pair = pairs_in c (fill H a) in
      let high : List Pair = pairs_in c (fill H b) in
      let l : IsLawful (low ++ pair_of c r ∷ high) = subst IsLawful (pairs_in-node c (fill H a) (fill H b) r) lawful in
      let u : IsLawful (pair_of c r ∷ high) = lawful_right low (pair_of c r ∷ high) l in
      elim (has_hung_app c p (links a) (links b) k) [
        | inl m ↦ elim (has_node c (bare a) (bare b) r p h) [
          | inl n ↦ not_hung c a p (lawful_left low (pair_of c r ∷ high) l) n m
          | inr n ↦ no_two p low (pair_of c r ∷ high) l (fill_has c a p (inr m))
              (elim n [ inl e ↦ inl e | inr o ↦ inr (fill_has c b p (inl o)) ])
        ]
        | inr m ↦ elim (has_node c (bare a) (bare b) r p h) [
          | inl n ↦ no_two p low (pair_of c r ∷ high) l (fill_has c a p (inl n)) (inr (fill_has c b p (inr m)))
          | inr n ↦ elim n [
            | inl e ↦ no_two p (pair_of c r ∷ []) high u (inl e) (fill_has c b p (inr m))
            | inr o ↦ not_hung c b p u.2 o m
          ]
        ]
      ]

  -- order

  pub ends_ordered : (c : Nodes) (cut : Cut) (x y : Bound) → IsOrdered c (fill H cut) x y → AllOrdered c H (ends c cut x y)
  ends_ordered c (end zero) x y o = tt
  ends_ordered c (end (suc l)) x y o = (o, tt)
  ends_ordered c (held a r b) x y o =
      all_app (λ e. IsOrdered c (H e.0) e.1 e.2) (ends c a x (left_end c r)) (ends c b (right_end c r) y)
      (ends_ordered c a x (left_end c r) o.3) (ends_ordered c b (right_end c r) y o.4)

  pub bare_ordered : (c : Nodes) (cut : Cut) (x y : Bound) → IsOrdered c (fill H cut) x y → IsOrdered c (bare cut) x y
  bare_ordered c (end l) x y o = tt
  bare_ordered c (held a r b) x y o =
      (o.0, o.1, o.2, bare_ordered c a x (left_end c r) o.3, bare_ordered c b (right_end c r) y o.4)

  pub fill_ordered : (d : Nodes) (cut : Cut) (x y : Bound) → IsOrdered d (bare cut) x y → AllOrdered d H (ends d cut x y)
      → IsOrdered d (fill H cut) x y
  fill_ordered d (end zero) x y o all = subst (λ (t : Tree). IsOrdered d t x y) (sym empty) tt
  fill_ordered d (end (suc l)) x y o all = all.0
  fill_ordered d (held a r b) x y o all =
      let P : End → Type 0 = λ e. IsOrdered d (H e.0) e.1 e.2 in
      let es = ends d a x (left_end d r) in
      let fs = ends d b (right_end d r) y in
      (o.0, o.1, o.2, fill_ordered d a x (left_end d r) o.3 (all_left P es fs all), fill_ordered d b (right_end d r) y o.4 (all_right P es fs all))

  agree_on_ends : (c d : Nodes) (es : List End) → AgreeOn c d (hung H (links_of es)) → AgreeEnds c d H es
  agree_on_ends c d [] same = tt
  agree_on_ends c d (e ∷ es) same = (
    on_tree c d (H e.0) (on_left c d (in_order (H e.0)) (hung H (links_of es)) same),
    agree_on_ends c d es (on_right c d (in_order (H e.0)) (hung H (links_of es)) same),
  )

  pub agree_ends : (c d : Nodes) (cut : Cut) (x y : Bound) → AgreeOn c d (hung H (links cut)) → AgreeEnds c d H (ends c cut x y)
  agree_ends c d cut x y same = agree_on_ends c d (ends c cut x y)
      (subst (λ (ls : List ℕ). AgreeOn c d (hung H ls)) (sym (links_of-ends c cut x y)) same)

  pub looser_ordered : (c d : Nodes) (es fs : List End) → Looser es fs → AgreeEnds c d H es → AllOrdered c H es → AllOrdered d H fs
  looser_ordered c d [] [] loose same all = tt
  looser_ordered c d [] (k ∷ ks) loose same all = absurd loose
  looser_ordered c d (h ∷ hs) [] loose same all = absurd loose
  looser_ordered c d (h ∷ hs) (k ∷ ks) loose same all = (
    subst (λ (l : ℕ). IsOrdered d (H l) k.1 k.2) (sym loose.0) (ordered_stays c d (H h.0) h.1 h.2 k.1 k.2 same.0 loose.1 loose.2 all.0),
    looser_ordered c d hs ks loose.3 same.1 all.1,
  )

  -- gaps

  in_left : (c : Nodes) (es fs : List End) (q : ℕ) (g : Gap) → InEnds c H es q g → InEnds c H (es ++ fs) q g
  in_left c [] fs q g h = absurd h
  in_left c (e ∷ es) fs q g h = elim h [ inl m ↦ inl m | inr m ↦ inr (in_left c es fs q g m) ]

  in_right : (c : Nodes) (es fs : List End) (q : ℕ) (g : Gap) → InEnds c H fs q g → InEnds c H (es ++ fs) q g
  in_right c [] fs q g h = h
  in_right c (e ∷ es) fs q g h = inr (in_right c es fs q g h)

  in_either : (c : Nodes) (es fs : List End) (q : ℕ) (g : Gap)
      → InEnds c H (es ++ fs) q g → InEnds c H es q g ⊎ InEnds c H fs q g
  in_either c [] fs q g h = inr h
  in_either c (e ∷ es) fs q g h = elim h [
    | inl m ↦ inl (inl m)
    | inr m ↦ elim (in_either c es fs q g m) [ inl l ↦ inl (inr l) | inr u ↦ inr u ]
  ]

  pub out_of : (c : Nodes) (cut : Cut) (x y : Bound) (q : ℕ) (g : Gap) → (IsRow q cut → ⊥)
      → HasGap c (fill H cut) x y q g → InEnds c H (ends c cut x y) q g
  out_of c (end zero) x y q g out h = absurd (subst (λ (t : Tree). HasGap c t x y q g) empty h)
  out_of c (end (suc l)) x y q g out h = inl h
  out_of c (held a r b) x y q g out h =
      let s = times-++ q (in_order (bare a)) (r ∷ in_order (bare b)) in
      elim h [
        | inl m ↦ let o = one_equal q r m.0 in absurd (out (omega arith))
        | inr m ↦ elim m [
          | inl l ↦ in_left c (ends c a x (left_end c r)) (ends c b (right_end c r) y) q g
              (out_of c a x (left_end c r) q g (λ i. out (omega arith)) l)
          | inr u ↦ in_right c (ends c a x (left_end c r)) (ends c b (right_end c r) y) q g
              (out_of c b (right_end c r) y q g (λ i. out (omega arith)) u)
        ]
      ]

  pub into : (c : Nodes) (cut : Cut) (x y : Bound) (q : ℕ) (g : Gap) → InEnds c H (ends c cut x y) q g → HasGap c (fill H cut) x y q g
  into c (end zero) x y q g h = absurd h
  into c (end (suc l)) x y q g h = elim h [ inl m ↦ m | inr m ↦ absurd m ]
  into c (held a r b) x y q g h = elim (in_either c (ends c a x (left_end c r)) (ends c b (right_end c r) y) q g h) [
    | inl l ↦ inr (inl (into c a x (left_end c r) q g l))
    | inr u ↦ inr (inr (into c b (right_end c r) y q g u))
  ]

  pub looser_gap : (c d : Nodes) (es fs : List End) (q : ℕ) (g : Gap) → Looser es fs → AgreeEnds c d H es
      → InEnds c H es q g → InEnds d H fs q g
  looser_gap c d [] fs q g loose same h = absurd h
  looser_gap c d (h ∷ hs) [] q g loose same i = absurd loose
  looser_gap c d (h ∷ hs) (k ∷ ks) q g loose same i = elim i [
    | inl m ↦ inl (subst (λ (l : ℕ). HasGap d (H l) k.1 k.2 q g) (sym loose.0)
        (gap_stays c d (H h.0) h.1 h.2 k.1 k.2 q g same.0 loose.1 loose.2 m))
    | inr m ↦ inr (looser_gap c d hs ks q g loose.3 same.1 m)
  ]

  pub cut_gap : (d : Nodes) (cut : Cut) (x y : Bound) (q : ℕ) (g : Gap) → HasCutGap d cut x y q g → HasGap d (fill H cut) x y q g
  cut_gap d (end l) x y q g h = absurd h
  cut_gap d (held a r b) x y q g h = elim h [
    | inl m ↦ inl m
    | inr m ↦ inr (elim m [
      | inl l ↦ inl (cut_gap d a x (left_end d r) q g l)
      | inr l ↦ inr (cut_gap d b (right_end d r) y q g l)
    ])
  ]

  -- what is aside doesn't overlap the range

  before_clear : (c : Nodes) (t : Tree) (x : Bound) (k : Key) (range : Interval) (p : Pair) → IsOrdered c t x (Some k)
      → key_le k range.left ≡ true → Has p (pairs_in c t) → overlap p.range range ≡ false
  before_clear c t x k range p o le h =
      before-overlap p.range range (lt_le p.range.right k range.left (all_inside c t x (Some k) p o h).1.1 le)

  behind_clear : (c : Nodes) (t : Tree) (y : Bound) (k : Key) (range : Interval) (p : Pair) → IsOrdered c t (Some k) y
      → key_le range.right k ≡ true → Has p (pairs_in c t) → overlap p.range range ≡ false
  behind_clear c t y k range p o le h =
      overlap_back p.range range
      ∙ before-overlap range p.range (le_lt range.right k p.range.left le (all_inside c t (Some k) y p o h).1.0)

  end_clear : (c : Nodes) (e : End) (range : Interval) (p : Pair) → IsOrdered c (H e.0) e.1 e.2 → IsAside range e
      → Has p (pairs_in c (H e.0)) → overlap p.range range ≡ false
  end_clear c e range p o aside h = elim aside [ inl k ↦ before e.2 o k | inr k ↦ behind e.1 o k ]
    where
      before : (y : Bound) → IsOrdered c (H e.0) e.1 y → EndsBefore y range → overlap p.range range ≡ false
      before None o k = absurd k
      before (Some key) o k = before_clear c (H e.0) e.1 key range p o k h

      behind : (x : Bound) → IsOrdered c (H e.0) x e.2 → BeginsBehind x range → overlap p.range range ≡ false
      behind None o k = absurd k
      behind (Some key) o k = behind_clear c (H e.0) e.2 key range p o k h

  ends_clear : (c : Nodes) (es : List End) (range : Interval) (p : Pair) → AllOrdered c H es → AllAside range es
      → Has p (hung_pairs c H (links_of es)) → overlap p.range range ≡ false
  ends_clear c [] range p o aside h = absurd h
  ends_clear c (e ∷ es) range p o aside h =
      elim (has_either p (pairs_in c (H e.0)) (hung_pairs c H (links_of es)) (subst (Has p) (hung_pairs-node c e.0 (links_of es)) h)) [
        | inl k ↦ end_clear c e range p o.0 aside.0 k
        | inr k ↦ ends_clear c es range p o.1 aside.1 k
      ]

  pub hung_clear : (c : Nodes) (cut : Cut) (x y : Bound) (range : Interval) (p : Pair) → IsOrdered c (fill H cut) x y
      → AllAside range (ends c cut None None) → Has p (hung_pairs c H (links cut)) → overlap p.range range ≡ false
  hung_clear c cut x y range p o aside h =
      ends_clear c (ends c cut x y) range p (ends_ordered c cut x y o) (aside_at c cut x y range aside)
      (subst (λ (ls : List ℕ). Has p (hung_pairs c H ls)) (sym (links_of-ends c cut x y)) h)

  -- what is found by a test of pairs that overlap is found in the rows shown
  pub filter-fill : (f : Pair → Bool) (c : Nodes) (cut : Cut) (range : Interval)
      → ((p : Pair) → f p ≡ true → overlap p.range range ≡ true)
      → ((p : Pair) → Has p (hung_pairs c H (links cut)) → overlap p.range range ≡ false)
      → filter f (pairs_in c (fill H cut)) ≡ filter f (pairs_in c (bare cut))
  filter-fill f c (end zero) range over clear = ap (λ (t : Tree). filter f (pairs_in c t)) empty
  filter-fill f c (end (suc l)) range over clear =
      filter_clear f range (pairs_in c (H (suc l))) over (clear_by range (pairs_in c (H (suc l))) (λ p h. clear p (hangs p h)))
    where
      hangs : (p : Pair) → Has p (pairs_in c (H (suc l))) → Has p (hung_pairs c H (suc l ∷ []))
      hangs p h = subst (Has p) (sym (hung_pairs-node c (suc l) [])) (has_left p (pairs_in c (H (suc l))) [] h)
  filter-fill f c (held a r b) range over clear =
      let low = filter-fill f c a range over (λ p h. clear p (hung_app_has c p (links a) (links b) (inl h))) in
      let high = filter-fill f c b range over (λ p h. clear p (hung_app_has c p (links a) (links b) (inr h))) in
      ap (filter f) (pairs_in-node c (fill H a) (fill H b) r)
      ∙ (filter_app f (pairs_in c (fill H a)) (pair_of c r ∷ pairs_in c (fill H b))
      ∙ (ap₂ (λ (l m : List Pair). l ++ m) low
      (filter_app f (pair_of c r ∷ []) (pairs_in c (fill H b))
      ∙ (ap (λ (l : List Pair). filter f (pair_of c r ∷ []) ++ l) high
      ∙ sym (filter_app f (pair_of c r ∷ []) (pairs_in c (bare b)))))
      ∙ (sym (filter_app f (pairs_in c (bare a)) (pair_of c r ∷ pairs_in c (bare b)))
      ∙ sym (ap (filter f) (pairs_in-node c (bare a) (bare b) r)))))
