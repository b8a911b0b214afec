use Rattle.std.proofs.Common.{◌≡◌, subst, arith}
use Rattle.lt_rows.specs.Plan.{setting_of}
use Rattle.lt_seq.specs.Yard.{Watches, shows}
use Rattle.lt_locktree.specs.Calls.{sees}
use Rattle.lt_manager.specs.Views.{Kept, view_of}
use Rattle.lt_manager.proofs.PassLaws.{looks_on, looks_sound, looks_show}
use Rattle.lt_manager.proofs.manager_pass.ManagerPass.look.Goals as goal

pub invariant_of-self : goal.invariant_of-self
invariant_of-self c =
    let inside = c.self.inside in
    looks_sound (sees inside.pass) (sees c.look.new.pass) c.look.result c.look.ensures.looks inside.mine.items inside.notes.items
    inside.pass.pass.numbered.1 (omega (arith, inside.pass.pass.numbered.0)) c.self.invariant

pub returns-clause-seen : goal.returns-clause-seen
returns-clause-seen c =
    subst (λ (k : Kept). c.look.result ≡ shows (setting_of (sees k.pass).plan) (sees c.look.new.pass).front) c.self.view_is
    (looks_show (sees c.self.inside.pass) (sees c.look.new.pass) c.look.result c.look.ensures.looks)

pub returns-clause-watches : goal.returns-clause-watches
returns-clause-watches c =
    let inside = c.self.inside in
    let kept : Kept = record { pass = c.look.new.pass; mine = inside.mine.items; notes = inside.notes.items } in
    subst (λ (k : Kept). Watches (setting_of (sees k.pass).plan) (view_of k) (view_of kept)) c.self.view_is
    (looks_on (sees inside.pass) (sees c.look.new.pass) c.look.result c.look.ensures.looks inside.mine.items inside.notes.items
    inside.pass.pass.numbered.1 (omega (arith, inside.pass.pass.numbered.0)) c.self.invariant)
