-- The note of a join: behind any history that stood, what is held has the tree's pairs.
use Rattle.std.proofs.Common.{◌≡◌, ◌+◌, List, [], ◌++◌, length, ap, ◌∙◌, subst}
use Rattle.lt_ranges.specs.Interval.{Interval}
use Rattle.lt_seq.specs.declared.event.Event.{Event}
use Rattle.lt_seq.specs.declared.event.JoinNote.{JoinNote}
use Rattle.lt_seq.specs.declared.event.Pair.{Pair}
use Rattle.lt_seq.specs.declared.event.Deed.TheVariants.{Join}
use Rattle.lt_rows.specs.declared.row_plan.RowPlan.{RowPlan}
use Rattle.lt_seq.specs.History.{after}
use Rattle.lt_seq.specs.Pairs.{joined}
use Rattle.lt_rows.specs.Plan.{setting_of}
use Rattle.lt_seq.specs.Table.{tree_at, held_in}
use Rattle.lt_seq.specs.Yard.{note_after}
use Rattle.lt_forest.specs.Cuts.{Cut}
use Rattle.lt_forest.specs.Plans.{Top, IsClosedFor}
use Rattle.lt_forest.specs.Views.{IsIn, HoldsPart}
use Rattle.lt_rows.specs.declared.image.RowImage.{RowImage}
use Rattle.lt_rows.specs.declared.view.View.{View}
use Rattle.lt_rows.specs.Lawful.{shown, KnowsTop}
use Rattle.lt_rows.specs.Rule.{Stood}
use Rattle.lt_rows.specs.Views.{has}
use Rattle.lt_rows.specs.Woods.{woods}
use Rattle.lt_rows.proofs.LessonLaws.{whole_part_shows_tree}
use Rattle.lt_tree.specs.Gathers.{Place, around}
use Rattle.lt_tree.specs.States.{OnlyRows}
use Rattle.lt_tree.proofs.PartLaws.{locked_is_part, locked_is_closed}
use Rattle.lt_tree.proofs.ReleaseLaws.{anchor_top}
use Rattle.lt_tree.proofs.ViewLaws.{rows_plan, rows_on}
use Rattle.lt_locktree.specs.declared.asking.Asking.{Asking}
use Rattle.lt_locktree.specs.Deeds.{asked_event, MakesJoin}
use Rattle.lt_locktree.specs.LawsOfJoins.{WholeTreeHasRows}
use Rattle.lt_locktree.specs.Makes.{Makes}
use Rattle.lt_locktree.proofs.HeldParts.{sub_pairs}

pub whole_tree_has_rows : WholeTreeHasRows
whole_tree_has_rows v tree asked here rows hangs more log l closed all lt top stood =
    let at = anchor_top v tree asked here rows hangs l lt top in
    let part = locked_is_part v tree asked here rows hangs more l lt in
    let cut_is : around l.place here (shown v [] here) l.sub ≡ l.sub = ap (λ (p : Place). around p here (shown v [] here) l.sub) at.0 in
    sub_pairs v tree asked here rows hangs more l lt
    ∙ whole_part_shows_tree v log tree l.score l.sub stood lt
    (subst (λ (t : Top). KnowsTop v tree t l.score) at.1 part.0)
    (subst (λ (x : Top × Cut). HoldsPart (IsIn (has v)) tree x.0 (shown v []) x.1) (λ j. (at.1 j, cut_is j)) part.1)
    (subst (λ (x : (Interval × Top) × Cut). IsClosedFor x.0.0 x.0.1 (shown v []) x.1) (λ j. ((all j, at.1 j), cut_is j))
    (locked_is_closed v tree asked here rows hangs more l closed))

-- A join that was made with rows that show the tree's pairs, whatever the history, has this note.
pub noted : (v u w : View) (a : Asking) (plan : List RowImage) (note : JoinNote) (pairs : List Pair) → OnlyRows v u
    → ((log : List Event) → Stood (woods u.plan) u log → pairs ≡ (tree_at (after (setting_of u.plan) log) a.tree).pairs)
    → Makes u w plan (asked_event a (Join a.tree note.before note.after)) note.place
    → note.tree ≡ a.tree → note.before ≡ length pairs → note.after ≡ length (joined v.plan.marks pairs)
    → note.pairs ≡ held_in a.tree (joined v.plan.marks pairs) → MakesJoin v w a note
noted v u w a plan note pairs only shows makes tree_is before_is after_is pairs_are =
    let log : List Event = u.front ++ makes.1.0 in
    let plan_is : u.plan ≡ v.plan = rows_plan v u only in
    let is : pairs ≡ (tree_at (after (setting_of v.plan) log) a.tree).pairs =
    shows log makes.1.1.stood ∙ ap (λ (k : RowPlan). (tree_at (after (setting_of k) log) a.tree).pairs) plan_is in
    let place : note.place ≡ v.plan.first + length log = makes.1.1.place_is ∙ ap (λ (k : RowPlan). k.first + length log) plan_is in
    let before = before_is ∙ ap (λ (ps : List Pair). length ps) is in
    let after = after_is ∙ ap (λ (ps : List Pair). length (joined v.plan.marks ps)) is in
    let held = pairs_are ∙ ap (λ (ps : List Pair). held_in a.tree (joined v.plan.marks ps)) is in (
      (u, plan, only, makes),
      log,
      ap (λ (x : View). x.front) makes.2 ∙ ap (λ (x : View). x.front) makes.1.2,
      λ j. record { place = place j; tree = tree_is j; before = before j; after = after j; pairs = held j },
    )

-- The same of a search that took rows before.
pub join_on : (v w u : View) (a : Asking) (note : JoinNote) → OnlyRows v w → MakesJoin w u a note → MakesJoin v u a note
join_on v w u a note only ((x, plan, more, makes), log, front, is) =
    ((x, plan, rows_on v w x only more, makes), log, front, is ∙ ap (λ (k : RowPlan). note_after (setting_of k) log a.tree) (rows_plan v w only))
