-- Rows of the pool, taken beside a part and given back.
use Rattle.std.proofs.Common.{◌≡◌, ◌≢◌, inl, inr, ⊎_elim, ◌⊎◌, ℕ, ◌+◌, ◌-◌, ◌<◌, true, List, [], ◌∷◌, refl, sym, ap, ◌∙◌, subst, arith}
use Rattle.std.proofs.Common.{eq-eqb, ne_eqb}
use Rattle.std.specs.Prelude.{Option, Some, None, nat_eq}
use mathlib.Core.Logic.{dite}
use native.Mathlib.Decide.{ℕ_discrete}
use Rattle.lt_ranges.specs.Interval.{Interval}
use Rattle.lt_rows.specs.declared.row_plan.RowPlan.{RowPlan}
use Rattle.lt_seq.specs.declared.event.Mode.{Mode}
use Rattle.lt_seq.specs.Table.{TreeState}
use Rattle.lt_rows.specs.Plan.{setting_of}
use Rattle.lt_seq.proofs.LawfulLaws.{sound_history}
use Rattle.lt_forest.specs.declared.part.PartRow.{PartRow}
use Rattle.lt_forest.specs.Counts.{one_if, times}
use Rattle.lt_forest.specs.Trees.{Node, Nodes, in_order}
use Rattle.lt_forest.specs.Cuts.{Cut, Shows, bare}
use Rattle.lt_forest.specs.Forest.{Forest, IsChain}
use Rattle.lt_forest.specs.Links.{left_of}
use Rattle.lt_forest.specs.Plans.{Top, IsPart}
use Rattle.lt_forest.specs.Views.{IsIn, AllHeld}
use Rattle.lt_forest.proofs.SameRows.{times-++, one_here, one_equal}
use Rattle.lt_forest.proofs.ForestLaws.{one_place}
use Rattle.lt_forest.proofs.PartLaws.{rows_are}
use Rattle.lt_forest.proofs.PlansInView.{true_part, on_cut}
use Rattle.lt_rows.specs.declared.view.View.{View}
use Rattle.lt_rows.specs.declared.view.Row.{Row}
use Rattle.lt_rows.specs.declared.take.Take.TheVariants.{Taken}
use Rattle.lt_rows.specs.Nodes.{node_of, mode_of}
use Rattle.lt_rows.specs.Views.{IsHeld, row_at, has, is_some, words_of, image_of, with_row}
use Rattle.lt_rows.specs.Views.{rows_of as all_rows}
use Rattle.lt_rows.specs.Lawful.{shown, KnowsTop}
use Rattle.lt_rows.specs.Teaching.{Teaches}
use Rattle.lt_rows.specs.Handles.{IsGathering}
use Rattle.lt_rows.proofs.Frames.{Some-none}
use Rattle.lt_rows.proofs.Planned.{view_is, held_row, row_held}
use Rattle.lt_rows.proofs.Lessons.{names_further, of_anchor, vacant}
use Rattle.lt_rows.proofs.StepLaws.{put_row_is_gone}
use Rattle.lt_rows.proofs.WoodCommits.{seen_top, mode_top}
use Rattle.lt_tree.specs.States.{OnlyMet, KeepsRows, HoldsElse, HoldsSame, Seizes}
use Rattle.lt_tree.specs.Gathers.{Place, below_top, on_left, on_right, link_at, around, TopIs, Beside, HoldsMore, IsLockedWith}
use Rattle.lt_tree.specs.declared.pool.PoolRows.{PoolRows}
use Rattle.lt_tree.specs.declared.pool.PoolRows.TheVariants.{Anchor, Vacant}
use Rattle.lt_tree.specs.Pools.{pool_rows, with_anchor, HoldsFirst}
use Rattle.lt_tree.proofs.ViewLaws.{met_rows, seized_else, seized_row, seized_gathers, put_gathers}
use Rattle.lt_tree.proofs.PuttingLaws.{same_or_other}
use Rattle.lt_tree.proofs.WideningLaws.{holds_part, on_rows}
use Rattle.lt_tree.proofs.ReleaseLaws.{whole_once}

-- the pool's first row stands in no part
chain_first : (c : Nodes) (link q : ℕ) (pool : List ℕ) → IsChain c link pool → link ≡ q + 1 → 0 < times q pool
chain_first c link q [] is e = absurd (omega arith)
chain_first c link q (r ∷ pool) is e = let first = is.0 in let o : one_if (nat_eq r q) ≡ 1 = ap one_if (eq-eqb r q (omega arith)) in omega arith

pub part_apart : {trees rows t : ℕ} {c : Nodes} {mode : ℕ → Mode} {state : List TreeState} {f : Forest} {top : Top} {cut : Cut}
    → IsPart trees rows c mode state f t top cut → (q : ℕ) → (c trees).left ≡ q + 1 → times q (in_order (bare cut)) ≡ 0
part_apart {trees} {rows} {t} {c} {mode} {state} {f} part q is =
    let first = chain_first c (c trees).left q f.pool part.forest.vacant is in
    let are = rows_are part q in
    let m = one_place part.forest _ part.tree q in
    omega arith

module _ (v : View) (tree : ℕ) (asked : Interval) (here : ℕ) (rows : List PartRow) (hangs : List ℕ)
    {more : List ℕ} (l : IsLockedWith v tree asked here rows hangs more) where
  abbrev mine : List ℕ
  mine = here ∷ in_order (bare l.sub)

  abbrev whole : Cut
  whole = around l.place here (shown v [] here) l.sub

  here_in : 0 < times here mine
  here_in = let o = one_here here in omega arith

  -- where the part's rows and the row that stays are as before
  module _ (w : View) (keeps : (q : ℕ) → 0 < times q mine → row_at w q ≡ row_at v q) where
    node_on : (q : ℕ) → 0 < times q mine → shown w [] q ≡ shown v [] q
    node_on q some = ap (λ (x : Option Row). node_of (image_of x)) (keeps q some)

    knows_on : (p : Place) (top : Top) → TopIs p tree here top → KnowsTop v tree top l.score → KnowsTop w tree top l.score
    knows_on below_top top is k =
        subst (λ (t : Top). KnowsTop w tree t l.score) (sym is.1)
        (ap (λ (x : Option Row). mode_of (image_of x)) (subst (λ (n : ℕ). row_at w n ≡ row_at v n) is.0 (keeps here here_in))
        ∙ subst (λ (t : Top). KnowsTop v tree t l.score) is.1 k)
    knows_on on_left top is k =
        subst (λ (t : Top). KnowsTop w tree t l.score) (sym is.1)
        (let h = subst (λ (t : Top). KnowsTop v tree t l.score) is.1 k in (h.0, keeps here here_in ∙ h.1, h.2))
    knows_on on_right top is k =
        subst (λ (t : Top). KnowsTop w tree t l.score) (sym is.1)
        (let h = subst (λ (t : Top). KnowsTop v tree t l.score) is.1 k in (h.0, keeps here here_in ∙ h.1, h.2))

    pub locked_on : (less : List ℕ) → HoldsMore w mine less → ((q : ℕ) → IsHeld w q → 0 < times q mine + times q less) → Teaches w → IsGathering w
        → IsLockedWith w tree asked here rows hangs less
    locked_on less held all teaches gathers = record {
      place = l.place;
      top = l.top;
      score = l.score;
      sub = l.sub;
      knows = knows_on l.place l.top l.top_is l.knows;
      top_is = l.top_is;
      in_gap = l.in_gap;
      beside = subst (λ (n : Node). Beside l.place asked n.range) (sym (node_on here here_in)) l.beside;
      shows = subst (λ (n : Node). Shows (shown w []) (link_at l.place n) l.sub) (sym (node_on here here_in))
          (on_cut (shown v []) (shown w []) (link_at l.place (shown v [] here)) l.sub (λ q some. sym (node_on q (omega arith))) l.shows);
      held_rows = λ q some. subst (λ (x : Option Row). is_some x ≡ true) (sym (keeps q some)) (l.held_rows q some);
      held_more = held;
      held_all = all;
      rows_are = on_rows (shown w []) (shown v []) (in_order (bare l.sub)) (λ q some. node_on q (omega arith)) ∙ l.rows_are;
      hangs_are = l.hangs_are;
      teaches = teaches;
      gathers = gathers;
    }

  -- a free row is taken
  module _ (w : View) (r : ℕ) (s : Seizes r v w Taken) (free : row_at v r ≡ None) where
    not_free : (q : ℕ) → IsHeld v q → q ≢ r
    not_free q h e = Some-none h.0 (sym free ∙ subst (λ (n : ℕ). row_at v n ≡ Some h.0) e h.1)

    absent : (xs : List ℕ) → AllHeld (IsIn (has v)) xs → times r xs ≡ 0
    absent xs all = dite (ℕ_discrete (times r xs) 0) (λ z. z) (λ ne. absurd (not_free r (held_row v r (all r (omega arith))) refl))

    pub takes_keeps : (q : ℕ) → IsHeld v q → row_at w q ≡ row_at v q
    takes_keeps q h = seized_else r v w s q (not_free q h)

    more_on : HoldsMore w mine (r ∷ more)
    more_on = record {
      held = λ q some. ⊎_elim
          (λ (is : q ≡ r). let h = seized_row r v w s in row_held w q h.0 (ap (λ (n : ℕ). row_at w n) is ∙ h.1))
          (λ (ne : (q ≢ r) × (one_if (nat_eq r q) ≡ 0)).
          let z = ne.1 in
          let h = held_row v q (l.held_more.held q (omega arith)) in
          row_held w q h.0 (takes_keeps q h ∙ h.1))
          (same_or_other r q);
      once = λ q. ⊎_elim
          (λ (is : q ≡ r).
          let z = absent more l.held_more.held in
          let same : times q more ≡ times r more = ap (λ (n : ℕ). times n more) is in
          let o = one_equal q r is in
          omega arith)
          (λ (ne : (q ≢ r) × (one_if (nat_eq r q) ≡ 0)). let z = ne.1 in let o = l.held_more.once q in omega arith)
          (same_or_other r q);
      apart = λ q some. ⊎_elim
          (λ (is : q ≡ r). ap (λ (n : ℕ). times n mine) is ∙ absent mine l.held_rows)
          (λ (ne : (q ≢ r) × (one_if (nat_eq r q) ≡ 0)). let z = ne.1 in l.held_more.apart q (omega arith))
          (same_or_other r q);
    }

    pub locked_takes : Teaches w → IsLockedWith w tree asked here rows hangs (r ∷ more)
    locked_takes teaches =
        locked_on w (λ q some. takes_keeps q (held_row v q (l.held_rows q some))) (r ∷ more) more_on
        (λ q h. ⊎_elim
        (λ (is : q ≡ r). let o = one_equal q r is in omega arith)
        (λ (ne : (q ≢ r) × (one_if (nat_eq r q) ≡ 0)).
        let z = ne.1 in
        let a = l.held_all q (h.0, sym (seized_else r v w s q ne.0) ∙ h.1) in
        omega arith)
        (same_or_other r q))
        teaches (seized_gathers r v w s l.gathers)

-- and given back
module _ (v : View) (tree : ℕ) (asked : Interval) (here : ℕ) (rows : List PartRow) (hangs : List ℕ)
    {more : List ℕ} (r : ℕ) (l : IsLockedWith v tree asked here rows hangs (r ∷ more)) (w : View) (e : w ≡ with_row v r None) where
  r_held : IsHeld v r
  r_held = held_row v r (l.held_more.held r (let o = one_here r in omega arith))

  pub further_gone : (row_at w r ≡ None) × ((q : ℕ) → q ≢ r → row_at w q ≡ row_at v q) × (Teaches v → Teaches w)
  further_gone = put_row_is_gone r v w r_held.0 r_held.1 e

  stays_in : (q : ℕ) → 0 < times q (here ∷ in_order (bare l.sub)) → q ≢ r
  stays_in q some is =
      let a = l.held_more.apart r (let o = one_here r in omega arith) in
      let same : times q (here ∷ in_order (bare l.sub)) ≡ times r (here ∷ in_order (bare l.sub)) =
      ap (λ (n : ℕ). times n (here ∷ in_order (bare l.sub))) is in
      omega arith

  less_in : (q : ℕ) → 0 < times q more → q ≢ r
  less_in q some is = let o = one_equal q r is in let m = l.held_more.once q in omega arith

  pub locked_puts : IsLockedWith w tree asked here rows hangs more
  locked_puts =
      locked_on v tree asked here rows hangs l w (λ q some. further_gone.1 q (stays_in q some)) more
      (record {
        held = λ q some. (let h = held_row v q (l.held_more.held q (omega arith)) in row_held w q h.0 (further_gone.1 q (less_in q some) ∙ h.1));
        once = λ q. (let m = l.held_more.once q in omega arith);
        apart = λ q some. l.held_more.apart q (omega arith);
      })
      (λ q h. ⊎_elim
      (λ (is : q ≡ r). absurd (Some-none h.0 (sym (ap (λ (n : ℕ). row_at w n) is ∙ further_gone.0) ∙ h.1)))
      (λ (ne : (q ≢ r) × (one_if (nat_eq r q) ≡ 0)). let z = ne.1 in let a = l.held_all q (h.0, sym (further_gone.1 q ne.0) ∙ h.1) in omega arith)
      (same_or_other r q))
      (further_gone.2 l.teaches) (put_gathers r v w r_held.0 r_held.1 e l.gathers)

-- which rows the search holds
module _ (v : View) (tree : ℕ) (asked : Interval) (here : ℕ) (rows : List PartRow) (hangs : List ℕ)
    {more : List ℕ} (l : IsLockedWith v tree asked here rows hangs more) (lt : tree < v.plan.trees) where
  -- the anchor of its tree, or a row of its cut
  stands : (p : Place) → TopIs p tree here l.top → (q : ℕ) → 0 < times q (here ∷ in_order (bare l.sub))
      → (q ≡ tree) ⊎ (0 < times q (in_order (bare (around p here (shown v [] here) l.sub))))
  stands below_top is q some = ⊎_elim
      (λ (e : q ≡ here). inl (e ∙ is.0))
      (λ (ne : (q ≢ here) × (one_if (nat_eq here q) ≡ 0)). inr (let z = ne.1 in omega arith))
      (same_or_other here q)
  stands on_left is q some = inr (let t = times-++ q (in_order (bare l.sub)) (here ∷ []) in omega arith)
  stands on_right is q some = inr some

  -- which is a further row
  pub not_pool : (q : ℕ) → 0 < times q (here ∷ in_order (bare l.sub)) → q ≢ v.plan.trees
  not_pool q some e = elim (stands l.place l.top_is q some) [
    | inl is ↦ omega arith
    | inr there ↦ let more' = (whole_once v tree asked here rows hangs l lt q).1 there in omega arith
  ]

  apart_in : (q : ℕ) → IsIn (has v) v.plan.trees → (shown v [] v.plan.trees).left ≡ q + 1
      → times q (in_order (bare (around l.place here (shown v [] here) l.sub))) ≡ 0
  apart_in q held is =
      let st = l.teaches.2 in
      let log = l.teaches.0 in
      let part = holds_part v tree asked here rows hangs l lt in
      let agree = (view_is v [] st.contents st.agrees).before in
      let seen = seen_top v.plan v [] st.forest st.contents log st.shape st.agrees st.gaps tree lt l.top l.score l.knows in
      let mode = mode_top v.plan v [] st.forest st.contents log st.shape st.agrees st.gaps tree lt l.top l.score part.top_held l.knows in
      part_apart (true_part agree part st.shape.forest (sound_history (setting_of v.plan) log st.shape.legal) lt mode seen) q
      (ap (λ (n : Node). n.left) (sym (agree v.plan.trees held)) ∙ is)

-- without rows of the pool, its anchor may be taken
pub pool_free : (v : View) (tree : ℕ) (asked : Interval) (here : ℕ) (rows : List PartRow) (hangs : List ℕ)
    → IsLockedWith v tree asked here rows hangs [] → tree < v.plan.trees → row_at v v.plan.trees ≡ None
pool_free v tree asked here rows hangs l lt = go (row_at v v.plan.trees) refl
  where
    go : (x : Option Row) → row_at v v.plan.trees ≡ x → row_at v v.plan.trees ≡ None
    go None is = is
    go (Some row) is =
        let a = l.held_all v.plan.trees (row, is) in
        absurd (not_pool v tree asked here rows hangs l lt v.plan.trees (omega arith) refl)

-- the first vacant row, where the pass is licensed
pub record FindsVacant (v : View) (link : ℕ) : Type 0 where
  pub some : 0 < link
  pub further : v.plan.trees < link - 1
  pub inside : link - 1 < all_rows v.plan
  pub free : row_at v (link - 1) ≡ None

pub finds_vacant : (v : View) (tree : ℕ) (asked : Interval) (here : ℕ) (rows : List PartRow) (hangs : List ℕ)
    → IsLockedWith v tree asked here rows hangs (v.plan.trees ∷ []) → tree < v.plan.trees → v.licensed ≡ true
    → (link : ℕ) → link ≡ (shown v [] v.plan.trees).left → FindsVacant v link
finds_vacant v tree asked here rows hangs l lt licensed link link_is =
    let first = vacant v l.teaches.0 l.teaches.2 licensed anchor_held in
    let is : (shown v [] v.plan.trees).left ≡ first.0 + 1 = first.1 in
    let same : link - 1 ≡ first.0 = omega arith in
    let of = of_anchor v l.teaches.0 l.teaches.2 v.plan.trees (omega arith) in
    elim (names_further v l.teaches.0 l.teaches.2 (left_of v.plan.trees) anchor_held of) [
      | inl z ↦ absurd (omega arith)
      | inr x ↦
          let named = x.1 in let far = x.2 in let near = x.3 in
          record {
            some = omega arith;
            further = omega arith;
            inside = omega arith;
            free = go first.0 is (omega arith) (row_at v (link - 1)) (link - 1) same refl;
          }
    ]
  where
    anchor_held : IsIn (has v) v.plan.trees
    anchor_held = l.held_more.held v.plan.trees (let o = one_here v.plan.trees in omega arith)

    go : (q : ℕ) → (shown v [] v.plan.trees).left ≡ q + 1 → v.plan.trees < q → (x : Option Row) (n : ℕ) → n ≡ q → row_at v n ≡ x → row_at v n ≡ None
    go q is far None n same e = e
    go q is far (Some row) n same e =
        let a = l.held_all n (row, e) in
        let ne : one_if (nat_eq v.plan.trees n) ≡ 0 = ap one_if (ne_eqb v.plan.trees n (λ x. omega arith)) in
        absurd (elim (stands v tree asked here rows hangs l lt l.place l.top_is n (omega arith)) [
          | inl at ↦ omega arith
          | inr there ↦
              let z = apart_in v tree asked here rows hangs l lt q anchor_held is in
              let t = ap (λ (m : ℕ). times m (in_order (bare (around l.place here (shown v [] here) l.sub)))) same in
              omega arith
        ])

pub anchor_row : (k : RowPlan) → k.trees < all_rows k
unfolding all_rows
anchor_row k = omega arith

-- the pool's anchor is one of the further rows
abbrev pub HasAnchor : PoolRows → Type 0
HasAnchor pool = (pool ≡ Anchor) ⊎ ((row : ℕ) × (pool ≡ Vacant row))

pub anchor_stays : (pool : PoolRows) → HasAnchor pool → pool ≡ with_anchor pool
anchor_stays pool (inl is) = is ∙ ap with_anchor (sym is)
anchor_stays pool (inr is) = is.1 ∙ ap with_anchor (sym is.1)

pub anchor_held : (v : View) (tree : ℕ) (asked : Interval) (here : ℕ) (rows : List PartRow) (hangs : List ℕ) (pool : PoolRows)
    → IsLockedWith v tree asked here rows hangs (pool_rows v.plan.trees pool) → HasAnchor pool → IsHeld v v.plan.trees
anchor_held v tree asked here rows hangs pool l has_anchor = held_row v v.plan.trees (l.held_more.held v.plan.trees (named has_anchor))
  where
    named : HasAnchor pool → 0 < times v.plan.trees (pool_rows v.plan.trees pool)
    named (inl is) =
        let e = ap (λ (p : PoolRows). times v.plan.trees (pool_rows v.plan.trees p)) is in
        let o = one_here v.plan.trees in omega arith
    named (inr is) =
        let e = ap (λ (p : PoolRows). times v.plan.trees (pool_rows v.plan.trees p)) is.1 in
        let o = one_here v.plan.trees in omega arith

-- the pool's anchor is loaded, and the row to which it leads is taken
module _ {v : View} {tree : ℕ} {asked : Interval} {here : ℕ} {rows : List PartRow} {hangs : List ℕ} (k : RowPlan)
    (l : IsLockedWith v tree asked here rows hangs (v.plan.trees ∷ [])) (plan : v.plan ≡ k) (lt : tree < k.trees) (t : ℕ) (t_is : t ≡ k.trees) where
  at_pool : t ≡ v.plan.trees
  at_pool = t_is ∙ ap (λ (p : RowPlan). p.trees) (sym plan)

  pub pool_held : IsHeld v v.plan.trees
  pool_held = held_row v v.plan.trees (l.held_more.held v.plan.trees (let o = one_here v.plan.trees in omega arith))

  pub pool_here : IsHeld v t
  pool_here = subst (IsHeld v) (sym at_pool) pool_held

  module _ (licensed : v.licensed ≡ true) (loaded : List ℕ) (words : loaded ≡ words_of (row_at v t)) (link : ℕ)
      (link_is : link ≡ (node_of loaded).left) where
    counts : loaded ≡ image_of (row_at v v.plan.trees)
    counts =
        words ∙ (ap (λ (n : ℕ). words_of (row_at v n)) at_pool
        ∙ (ap words_of pool_held.1 ∙ (l.gathers v.plan.trees pool_held.0 pool_held.1 ∙ ap image_of (sym pool_held.1))))

    leads : link ≡ (shown v [] v.plan.trees).left
    leads = link_is ∙ ap (λ (ws : List ℕ). (node_of ws).left) counts

    pub found : FindsVacant v link
    found = finds_vacant v tree asked here rows hangs l (subst (λ (p : RowPlan). tree < p.trees) (sym plan) lt) licensed link leads

    module _ {w : View} (s : Seizes (link - 1) v w Taken) where
      plan_on : w.plan ≡ v.plan
      plan_on = ap (λ (x : View). x.plan) s.2.3 ∙ ap (λ (x : View). x.plan) s.1.0

      pub took_first : Teaches w → IsLockedWith w tree asked here rows hangs ((link - 1) ∷ w.plan.trees ∷ [])
      took_first teaches =
          subst (λ (p : RowPlan). IsLockedWith w tree asked here rows hangs ((link - 1) ∷ p.trees ∷ [])) (sym plan_on)
          (locked_takes v tree asked here rows hangs l w (link - 1) s found.free teaches)

      pub first_keeps : KeepsRows v w
      first_keeps q h = takes_keeps v tree asked here rows hangs l w (link - 1) s found.free q h

      pub first_held : HoldsFirst w (link - 1)
      first_held =
          let far = found.further in
          let some = found.some in
          let row = seized_row (link - 1) v w s in
          let keeps = first_keeps v.plan.trees pool_held in
          let trees : w.plan.trees ≡ v.plan.trees = ap (λ (p : RowPlan). p.trees) plan_on in (
            subst (IsHeld w) (sym trees) (pool_held.0, keeps ∙ pool_held.1),
            (row.0, row.1),
            omega arith,
            ap (λ (n : ℕ). (shown w [] n).left) trees
                ∙ (ap (λ (x : Option Row). (node_of (image_of x)).left) keeps ∙ (sym leads ∙ omega arith)),
          )

-- the pool's anchor was taken, and is given back
pub same_again : (v x y w : View) (t : ℕ) → row_at v t ≡ None → HoldsElse t v x → OnlyMet x y → (row_at w t ≡ None) → HoldsElse t y w → HoldsSame v w
same_again v x y w t free taken met gone put q = dite (ℕ_discrete q t)
    (λ e. ap (λ (n : ℕ). row_at w n) e ∙ (gone ∙ (sym free ∙ ap (λ (n : ℕ). row_at v n) (sym e))))
    (λ ne. put q ne ∙ (met_rows x y q met ∙ taken q ne))
