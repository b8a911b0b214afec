use Rattle.std.proofs.Common.{◌≡◌, ◌∷◌, [], List, map, ap, ◌∙◌, subst, rules}
use Rattle.lt_seq.specs.declared.event.Event.{Event}
use Rattle.lt_seq.specs.Passes.{front_of_first}
use Rattle.lt_rows.specs.Closings.{IsLeft}
use Rattle.lt_locktree.specs.Calls.{front_of_first as first_front}
use Rattle.lt_manager.specs.Views.{view_of}
use Rattle.lt_manager.proofs.CloseLaws.{rest_is}
use Rattle.lt_manager.proofs.closing.close.Goals as goal

pub returns : goal.returns
returns c =
    let plan = c.args.table.rows.plan in
    let events : List Event = front_of_first (map view_of c.args.passes.items) in
    let rest = c.in_ok-places.field-0 in
    let gathered = c.in_ok-pass.ensures in
    let one : c.push.new.self.items ≡ c.in_ok-pass.pass ∷ [] = search rules in
    let left : IsLeft plan events rest =
    subst (λ es. IsLeft plan es rest) (ap first_front one ∙ gathered.first.1) c.in_ok-places.ensures.left in
    record {
      rest = rest_is plan c.args.passes.items events
          record { lists = c.in_ok-pass.lists; places = rest.places; used = rest.used; left = rest.left } c.requires.all gathered.calls
          gathered.lists
          left.places left.used left.left;
    }
