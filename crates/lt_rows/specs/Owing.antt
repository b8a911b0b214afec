-- What a commit and a settle owe to the rows, whatever others did meanwhile.
use Rattle.std.specs.Prelude.{◌≡◌, ℕ, ◌+◌, ◌<◌, ◌≤◌, true, List, [], ◌∷◌, ◌++◌, Option}
use Rattle.lt_seq.specs.declared.event.Event.{Event}
use Rattle.lt_rows.specs.declared.row_plan.RowPlan.{RowPlan}
use Rattle.lt_rows.specs.declared.view.SeenGap.{SeenGap}
use Rattle.lt_rows.specs.declared.view.Row.{Row}
use Rattle.lt_rows.specs.declared.image.RowImage.{RowImage}
use Rattle.lt_rows.specs.declared.view.View.{View}
use Rattle.lt_rows.specs.Views.{Holds, planned_contents, used_after, settled}
use Rattle.lt_rows.specs.Rule.{Kind, Agrees, Gaps}

-- From some forest after some history: one after the event, with the used rows that the history word counts.
pub record Deals (K : Kind) (k : RowPlan) (me : View) (e : Event) (plan : List RowImage) (add : ℕ) (forest : K.Forest)
    (contents : ℕ → List ℕ) (log : List Event) : Type 0 where
  pub after : K.Forest
  pub counts : add + used_after k log ≡ 16777216 + used_after k (log ++ e ∷ [])
  pub small : used_after k (log ++ e ∷ []) < 16777216
  pub grows : used_after k (log ++ e ∷ []) ≤ used_after k log + 1
  pub licence : used_after k log < used_after k (log ++ e ∷ []) → me.licensed ≡ true
  pub shape : K.Shape after (planned_contents contents plan) (log ++ e ∷ [])
  pub others : (q : ℕ) (g : SeenGap) → ((row : Row) → Holds me q row → ⊥) → K.Placed forest contents q g
      → K.Placed after (planned_contents contents plan) q g

-- whatever the forest and the history are, which agree with what the seat has, the event and the plan keep the shape, and the gaps of the rows of others
abbrev pub MayCommit : Kind → RowPlan → View → Event → List RowImage → ℕ → Type 0
MayCommit K k me e plan add =
    (forest : K.Forest) (contents : ℕ → List ℕ) (log rest : List Event) → me.mark ≤ k.passes → log ≡ me.front ++ rest
    → K.Shape forest contents log → Agrees K forest contents me → Gaps K forest contents me
    → Deals K k me e plan add forest contents log

-- From some forest after some history: one after the same history, in which the gaps of others and the new ones lie.
pub record Keeps (K : Kind) (me : View) (plan : List RowImage) (gaps : List (Option SeenGap)) (forest : K.Forest)
    (contents : ℕ → List ℕ) (log : List Event) : Type 0 where
  pub after : K.Forest
  pub shape : K.Shape after (planned_contents contents plan) log
  pub others : (q : ℕ) (g : SeenGap) → ((row : Row) → Holds me q row → ⊥) → K.Placed forest contents q g
      → K.Placed after (planned_contents contents plan) q g
  pub own : Gaps K after (planned_contents contents plan) (settled me plan gaps me.front)

-- the plan shows the same forest, and the new gaps are gaps in it
abbrev pub MaySettle : Kind → RowPlan → View → List RowImage → List (Option SeenGap) → Type 0
MaySettle K k me plan gaps =
    (forest : K.Forest) (contents : ℕ → List ℕ) (log rest : List Event) → me.plan ≡ k → log ≡ me.front ++ rest
    → K.Shape forest contents log → Agrees K forest contents me → Gaps K forest contents me
    → Keeps K me plan gaps forest contents log
