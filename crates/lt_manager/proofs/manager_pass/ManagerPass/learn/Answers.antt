use Rattle.std.proofs.Common.{◌≡◌, ◌∙◌, refl, sym, ap, subst, arith}
use Rattle.lt_rows.specs.declared.row_plan.RowPlan.{RowPlan}
use Rattle.lt_seq.specs.History.{IsLegal}
use Rattle.lt_rows.specs.Plan.{setting_of}
use Rattle.lt_seq.specs.Yard.{Learns}
use Rattle.lt_rows.specs.declared.view.View.{View}
use Rattle.lt_rows.specs.Passes.{view}
use Rattle.lt_locktree.specs.Calls.{sees}
use Rattle.lt_manager.specs.Views.{Kept, Noted, view_of, plan_of, told_by}
use Rattle.lt_manager.proofs.LearnLaws.{learned_sound, learns}
use Rattle.lt_manager.proofs.manager_pass.ManagerPass.learn.Goals as goal

-- the note's front is a legal history of this table
note_legal : (c : goal.After-learn) → IsLegal (setting_of (sees c.self.inside.pass).plan) (view c.note.inside.note.place).front
note_legal c =
    let own : (sees c.self.inside.pass).plan ≡ (sees c.args.self.now.pass).plan = ap (λ (k : Kept). (sees k.pass).plan) c.self.view_is in
    let its : (view c.note.inside.note.place).plan ≡ plan_of c.args.note = ap plan_of c.note.view_is in
    subst (λ (k : RowPlan). IsLegal (setting_of k) (view c.note.inside.note.place).front)
    (its ∙ (c.requires.of_note.1 ∙ (sym c.requires.of.1 ∙ sym own))) c.note.invariant

pub invariant_of-self : goal.invariant_of-self
invariant_of-self c =
    let inside = c.self.inside in
    learned_sound (sees inside.pass) (view c.note.inside.note.place) (sees c.learn.new.pass) c.learn.ensures.learned c.learn.ensures.told
    c.learn.ensures.more inside.mine.items inside.notes.items inside.pass.pass.numbered.1 (omega (arith, inside.pass.pass.numbered.0))
    c.self.invariant (note_legal c)

pub returns-clause-learns : goal.returns-clause-learns
returns-clause-learns c =
    let inside = c.self.inside in
    let now : Kept = record { pass = c.learn.new.pass; mine = inside.mine.items; notes = inside.notes.items } in
    let row = c.note.inside.note in
    subst (λ (k : Kept). Learns (setting_of (sees k.pass).plan) (view_of k) (told_by c.args.note) (view_of now)) c.self.view_is
    (subst (λ (n : Noted). Learns (setting_of (sees inside.pass).plan)
    (view_of record { pass = inside.pass; mine = inside.mine.items; notes = inside.notes.items }) (told_by n) (view_of now)) c.note.view_is
    (learns (sees inside.pass) (view row.place) (sees c.learn.new.pass) c.learn.ensures.learned c.learn.ensures.told
    c.learn.ensures.more inside.mine.items inside.notes.items inside.pass.pass.numbered.1 (omega (arith, inside.pass.pass.numbered.0))
    c.self.invariant (note_legal c) (told_by record { note = row })
    (sym (ap (λ (x : View). x.rights) row.noted.0)) refl))
