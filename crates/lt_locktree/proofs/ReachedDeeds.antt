-- Deeds that a search leads to, which may have seen what others made.
use Rattle.std.proofs.Common.{◌≡◌, ℕ, Result, Ok, Err, IfOk, IfErr, sym, subst}
use Rattle.lt_seq.specs.declared.event.Deed.{Deed}
use Rattle.lt_seq.specs.declared.fault.Fault.{Fault}
use Rattle.lt_rows.specs.declared.view.View.{View}
use Rattle.lt_tree.specs.States.{OnlyRows, SeesOn}
use Rattle.lt_tree.proofs.SeenLaws.{seen_rows, seen_first}
use Rattle.lt_tree.proofs.ViewLaws.{rows_on}
use Rattle.lt_locktree.specs.declared.asking.Asking.{Asking}
use Rattle.lt_locktree.specs.Deeds.{MakesDeed, ReachesDeed}

-- what was taken is handed on as it is
pub handed_on : (v u x : View) → OnlyRows v u → x ≡ u → OnlyRows v x
handed_on v u x only same = subst (OnlyRows v) (sym same) only

-- A call that answers a deed, with rows alone taken before: one that took but rows itself, or one that saw what others made.

pub reached_rows : {T : Type 0} (r : Result T Fault) (v u w : View) (a : Asking) (deed : T → Deed) (place : T → ℕ) → OnlyRows v u
    → IfOk r (λ x. MakesDeed u w a (deed x) (place x)) → IfOk r (λ x. ReachesDeed v w a (deed x) (place x))
reached_rows (Ok x) v u w a deed place only made = (u, seen_rows v u only, made)
reached_rows (Err fault) v u w a deed place only made = tt

pub reached_on : {T : Type 0} (r : Result T Fault) (v u w : View) (a : Asking) (deed : T → Deed) (place : T → ℕ) → OnlyRows v u
    → IfOk r (λ x. ReachesDeed u w a (deed x) (place x)) → IfOk r (λ x. ReachesDeed v w a (deed x) (place x))
reached_on (Ok x) v u w a deed place only (y, seen, made) = (y, seen_first v u y only seen, made)
reached_on (Err fault) v u w a deed place only made = tt

-- the same, with a copy in the answer

pub copied_rows : {T : Type 0} (r : Result T Fault) (v u w : View) (a : Asking) (deed : T → Deed) (place : T → ℕ) (copied : T → Type 0)
    → OnlyRows v u → IfOk r (λ x. MakesDeed u w a (deed x) (place x) × copied x)
    → IfOk r (λ x. ReachesDeed v w a (deed x) (place x) × copied x)
copied_rows (Ok x) v u w a deed place copied only made = ((u, seen_rows v u only, made.0), made.1)
copied_rows (Err fault) v u w a deed place copied only made = tt

pub copied_on : {T : Type 0} (r : Result T Fault) (v u w : View) (a : Asking) (deed : T → Deed) (place : T → ℕ) (copied : T → Type 0)
    → OnlyRows v u → IfOk r (λ x. ReachesDeed u w a (deed x) (place x) × copied x)
    → IfOk r (λ x. ReachesDeed v w a (deed x) (place x) × copied x)
copied_on (Ok x) v u w a deed place copied only ((y, seen, made), same) = ((y, seen_first v u y only seen, made), same)
copied_on (Err fault) v u w a deed place copied only made = tt

-- and one that answers none

pub left_rows : {T : Type 0} (r : Result T Fault) (v u w : View) → OnlyRows v u → IfErr r (λ _. OnlyRows u w) → IfErr r (λ _. SeesOn v w)
left_rows (Ok x) v u w taken only = tt
left_rows (Err fault) v u w taken only = seen_rows v w (rows_on v u w taken only)

pub left_on : {T : Type 0} (r : Result T Fault) (v u w : View) → OnlyRows v u → IfErr r (λ _. SeesOn u w) → IfErr r (λ _. SeesOn v w)
left_on (Ok x) v u w taken seen = tt
left_on (Err fault) v u w taken seen = seen_first v u w taken seen
