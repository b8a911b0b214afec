-- What a call of the table says, from what its pass has done below.
use Rattle.std.proofs.Common.{◌≡◌, ℕ, ◌+◌, ◌<◌, Result, Ok, Err, IfErr, sym, ap, ◌∙◌, arith}
use Rattle.lt_seq.specs.declared.event.Deed.{Deed}
use Rattle.lt_seq.specs.declared.fault.Fault.{Fault}
use Rattle.lt_rows.specs.declared.pass.RowPass.{RowPass}
use Rattle.lt_rows.specs.declared.table.RowTable.{RowTable}
use Rattle.lt_rows.specs.declared.view.View.{View}
use Rattle.lt_rows.specs.Handles.{knows, IsPassOf, IsSamePass}
use Rattle.lt_tree.specs.States.{SeesOn, IsRefused}
use Rattle.lt_locktree.specs.declared.asking.Asking.{Asking}
use Rattle.lt_locktree.specs.Calls.{Makes, Leaves, IsSame}
use Rattle.lt_locktree.specs.Deeds.{ReachesDeed}
use Rattle.lt_locktree.proofs.CallLaws.{deed_is_made, deed_is_refused}

pub same_pass : (t : RowTable) (p q : RowPass) → IsPassOf t p → IsPassOf t q → IsSamePass p q → IsSame (knows p) (knows q)
same_pass t p q of of' same = (
  of'.1 ∙ sym of.1,
  q.numbered.0 ∙ (ap (λ (n : ℕ). n + 1) same.0 ∙ sym p.numbered.0),
  q.numbered.1 ∙ sym p.numbered.1,
  q.numbered.2 ∙ (same.1 ∙ sym p.numbered.2),
)

pub still_below : (t : RowTable) (p q : RowPass) → IsPassOf t p → IsPassOf t q → IsSamePass p q → p.number < (knows p).plan.passes → q.number < (knows q).plan.passes
still_below t p q of of' same below =
    let passes = ap (λ k. k.passes) (of'.1 ∙ sym of.1) in
    omega (arith, below, passes, same.0)

module _ (p : RowPass) (below : p.number < (knows p).plan.passes) (w : View) where
  pub made_call : (a : Asking) (deed : Deed) (place : ℕ) → a.pass ≡ p.number → ReachesDeed (knows p) w a deed place → Makes (knows p) w a.txn deed place
  made_call a deed place number made =
      let m = p.numbered.0 in
      deed_is_made (knows p) w a deed place made (omega (arith, m, number)) (omega (arith, m, below))

  pub left_call : {T : Type 0} (r : Result T Fault) → IfErr r (λ _. SeesOn (knows p) w) → IfErr r (IsRefused (knows p) w) → IfErr r (Leaves (knows p) w)
  left_call (Ok x) seen refused = tt
  left_call (Err fault) seen refused = deed_is_refused (knows p) w fault seen refused
