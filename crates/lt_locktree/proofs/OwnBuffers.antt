-- A buffer's transaction asks who stands in its own way: its anchor is committed as it is, and given back.
use Rattle.std.proofs.Common.{◌≡◌, ℕ, ◌+◌, ◌<◌, List, [], ◌∷◌, refl, sym, ap, ◌∙◌, subst, arith}
use Rattle.std.specs.Prelude.{None, pos}
use mathlib.Core.Logic.{dite}
use native.Mathlib.Decide.{ℕ_discrete}
use Rattle.lt_ranges.specs.Interval.{IsInterval}
use Rattle.lt_rows.specs.declared.row_plan.RowPlan.{RowPlan}
use Rattle.lt_seq.specs.declared.event.Event.{Event}
use Rattle.lt_seq.specs.declared.event.Deed.TheVariants.{Who}
use Rattle.lt_seq.specs.Table.{tree_of}
use Rattle.lt_forest.proofs.SameRows.{one_here}
use Rattle.lt_rows.specs.declared.pass.RowPass.{RowPass}
use Rattle.lt_rows.specs.declared.view.View.{View}
use Rattle.lt_rows.specs.declared.view.Row.{Row}
use Rattle.lt_rows.specs.Handles.{knows, Commits}
use Rattle.lt_rows.specs.Views.{Holds, row_at, image_of, words_of, with_row, committed}
use Rattle.lt_rows.specs.Lawful.{asks_owner, IsCommit}
use Rattle.lt_rows.proofs.Frames.{Some-none}
use Rattle.lt_rows.proofs.Views.{committed_at}
use Rattle.lt_rows.proofs.Wide.{still_none}
use Rattle.lt_tree.specs.States.{HoldsNone, HoldsOnly}
use Rattle.lt_tree.specs.Puttings.{Backs}
use Rattle.lt_tree.proofs.ViewLaws.{put_only, rows_same, held_put}
use Rattle.lt_chain.proofs.HoldingLaws.{backs_has, backs_may_put, backs_out, one_else}
use Rattle.lt_locktree.specs.declared.asking.Asking.{Asking}
use Rattle.lt_locktree.specs.Deeds.{asked_event, MakesDeed}
use Rattle.lt_locktree.specs.Endings.{OwnWhoKeepsBuffer}
use Rattle.lt_locktree.specs.TakenBuffers.{ShowsBufferOf}

pub own_who_keeps_buffer : OwnWhoKeepsBuffer
own_who_keeps_buffer v tree owner count asked e here mode lt interval is pass = record {
  pass = pass;
  tree = subst (λ (n : ℕ). n < v.plan.trees) (sym (ap tree_of is)) lt;
  how = asks_owner record {
    tree = tree;
    owner = owner;
    count = count;
    range = asked;
    deed = is;
    question = interval;
    anchor = here;
    was = mode;
    no_plan = refl;
  };
  change_is = refl;
  licence = λ more. absurd (omega arith);
}

module _ (v w : View) (tree : ℕ) (log : List Event) (b : Backs v (tree ∷ [])) (made : w ≡ committed v [] log) where
  -- the anchor is held after the commit as it was
  pub anchor_may_put : (row : Row) × Holds w tree row × (row.words ≡ row.image)
  anchor_may_put =
      let o = one_here tree in
      let h = backs_may_put v (tree ∷ []) b tree (omega arith) in
      let c = committed_at v [] log tree h.0 h.1 in
      (c.0, ap (λ (x : View). row_at x tree) made ∙ c.1, c.2 ∙ (h.2 ∙ (sym (ap image_of h.1) ∙ sym c.3)))

  -- and no other row
  pub anchor_only : HoldsOnly w tree
  anchor_only q held = dite (ℕ_discrete q tree) (λ e. e)
      (λ ne.
      let z = one_else q tree ne in
      let none = backs_out v (tree ∷ []) b q (omega arith) in
      absurd (Some-none held.0 (sym (ap (λ (x : View). row_at x q) made ∙ still_none v [] [] q none) ∙ held.1)))

  pub anchor_gone : (z : View) → z ≡ with_row w tree None → HoldsNone z
  anchor_gone z put =
      let h = anchor_may_put in
      put_only w z tree anchor_only h.0 h.1 put

-- the commit, as the call asks for it
pub own_who_commits : (pass : RowPass) (k : RowPlan) (a : Asking) (owner : ℕ) (owners : List ℕ) → (knows pass).plan ≡ k → a.tree < k.trees
    → Backs (knows pass) (a.tree ∷ []) → ShowsBufferOf (knows pass) a.tree owner → a.pass ≡ pass.number → IsInterval a.range → owners ≡ []
    → IsCommit k (knows pass) (asked_event a (Who a.tree a.range owner owners)) [] (pos 0)
own_who_commits pass k a owner owners plan lt b buffer own interval none =
    let v : View = knows pass in
    let o = one_here a.tree in
    let h = backs_has v (a.tree ∷ []) b a.tree (omega arith) (words_of (row_at v a.tree)) refl in
    subst (λ (p : RowPlan). IsCommit p (knows pass) (asked_event a (Who a.tree a.range owner owners)) [] (pos 0)) plan
    (own_who_keeps_buffer v a.tree owner buffer.0 a.range (asked_event a (Who a.tree a.range owner owners)) h.0 buffer.1
    (subst (λ (p : RowPlan). a.tree < p.trees) (sym plan) lt) interval (ap (λ (os : List ℕ). Who a.tree a.range owner os) none)
    (ap (λ (n : ℕ). n + 1) own ∙ sym pass.numbered.0))

-- and what it makes
pub own_who_made : (v made w : View) (a : Asking) (e : Event) (owner place : ℕ) (named owners : List ℕ) → Commits v made [] e place
    → w ≡ with_row made a.tree None → e ≡ asked_event a (Who a.tree a.range owner named) → named ≡ [] → owners ≡ []
    → MakesDeed v w a (Who a.tree a.range owner owners) place
own_who_made v made w a e owner place named owners commits put is none empty =
    let same : e ≡ asked_event a (Who a.tree a.range owner owners) =
    is ∙ ap (λ (os : List ℕ). asked_event a (Who a.tree a.range owner os)) (none ∙ sym empty) in (
      v,
      [],
      rows_same v,
      (made, subst (λ (x : Event). Commits v made [] x place) same commits, held_put made w a.tree put),
    )
