use Rattle.std.proofs.Common.{rules, ◌≡◌, ◌∙◌, ◌∷◌, [], List, ap, refl}
use Rattle.lt_forest.specs.declared.part.PartRow.{PartRow}
use Rattle.lt_forest.specs.Parts.{numbers}
use Rattle.lt_rows.specs.Handles.{knows}
use Rattle.lt_tree.proofs.PuttingLaws.{puts_none, last_may_be_put, puts_one, puts_all, backs_none, one_row_less}
use Rattle.lt_tree.proofs.put.put_part.Goals as goal

pub loop-row-init : goal.loop-row-init
loop-row-init c =
    (c.requires.of, (refl, refl), puts_none (knows c.args.pass.now) (c.args.held ∷ numbers c.args.rows.items) c.requires.backs.keeps)

pub put-requires-clause-settled : goal.put-requires-clause-settled
put-requires-clause-settled c =
    last_may_be_put (knows c.args.pass.now) (knows c.loop-row.pass) (c.args.held ∷ numbers c.args.rows.items)
    (c.args.held ∷ numbers c.loop-row.rows.items) c.loop-row.invariant.2 (c.args.held ∷ numbers c.pop.new.self.items) c.in-Some.row.row
    (one_row_less c.args.held c.loop-row.rows.items c.pop.new.self.items c.in-Some.row c.in-Some.ensures.items)

pub loop-row-preserved : goal.loop-row-preserved
loop-row-preserved c =
    let i = c.loop-row.invariant in
    let o = c.put.ensures.of in (
      o.0,
      (o.1.0 ∙ i.1.0, o.1.1 ∙ i.1.1),
      puts_one (knows c.args.pass.now) (knows c.loop-row.pass) (c.args.held ∷ numbers c.args.rows.items)
          (c.args.held ∷ numbers c.loop-row.rows.items) i.2 (c.args.held ∷ numbers c.pop.new.self.items) c.in-Some.row.row
          (one_row_less c.args.held c.loop-row.rows.items c.pop.new.self.items c.in-Some.row c.in-Some.ensures.items)
          (knows c.put.new.pass) c.put.ensures.given,
    )

pub put-requires-2-clause-settled : goal.put-requires-2-clause-settled
put-requires-2-clause-settled c =
    let none : c.loop-row.rows.items ≡ [] = search rules in
    last_may_be_put (knows c.args.pass.now) (knows c.loop-row.pass) (c.args.held ∷ numbers c.args.rows.items)
    (c.args.held ∷ numbers c.loop-row.rows.items) c.loop-row.invariant.2 [] c.args.held
    (ap (λ (xs : List PartRow). c.args.held ∷ numbers xs) none)

pub returns-clause-none : goal.returns-clause-none
returns-clause-none c =
    let none : c.loop-row.rows.items ≡ [] = search rules in
    backs_none (knows c.args.pass.now) (knows c.put-2.new.pass) (c.args.held ∷ numbers c.args.rows.items) c.requires.backs
    (puts_all (knows c.args.pass.now) (knows c.put-2.new.pass) (c.args.held ∷ numbers c.args.rows.items) []
    (puts_one (knows c.args.pass.now) (knows c.loop-row.pass) (c.args.held ∷ numbers c.args.rows.items)
    (c.args.held ∷ numbers c.loop-row.rows.items) c.loop-row.invariant.2 [] c.args.held
    (ap (λ (xs : List PartRow). c.args.held ∷ numbers xs) none) (knows c.put-2.new.pass) c.put-2.ensures.given) refl)
