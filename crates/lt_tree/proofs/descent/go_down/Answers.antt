use Rattle.std.specs.Prelude.{None, true}
use Rattle.std.proofs.Common.{rules, ◌≡◌, ℕ, ◌<◌, [], ◌∷◌, ◌++◌, sym, ap, ◌∙◌, subst, arith, refl}
use Rattle.lt_ranges.specs.Interval.{Interval, overlap}
use Rattle.lt_rows.specs.declared.row_plan.RowPlan.{RowPlan}
use Rattle.lt_rows.specs.declared.view.View.{View}
use Rattle.lt_rows.specs.declared.image.RowImage.{RowImage}
use Rattle.lt_rows.specs.declared.table.RowTable.{RowTable}
use Rattle.lt_rows.specs.Handles.{knows}
use Rattle.lt_tree.specs.Puttings.{Backs}
use Rattle.lt_rows.specs.Nodes.{node_of}
use Rattle.lt_rows.proofs.Planned.{held_row}
use Rattle.lt_tree.specs.States.{SeesOn, image_at}
use Rattle.lt_tree.specs.Descents.{Descends, Arrives, GoesTo, ShowsAs, free_rows}
use Rattle.lt_tree.proofs.ViewLaws.{may_put, met_rows, rows_put}
use Rattle.lt_tree.proofs.SeenLaws.{seen_same, seen_on, seen_then}
use Rattle.lt_tree.proofs.StepLaws.{has_on}
use Rattle.lt_tree.proofs.PathLaws.{arrives_here, put_on, put_free_rows, child_put, keep_on, backs_both}
use Rattle.lt_tree.proofs.ArrivalLaws.{descends_first, arrives_last, backs_here}
use Rattle.lt_tree.proofs.ShowsLaws.{shows_same, shows_on}
use Rattle.lt_tree.proofs.HeldImages.{held_image, descends_image, path_same, arrived, shows_there}
use Rattle.lt_tree.proofs.descent.go_down.Goals as goal

pub loop-link-init : goal.loop-link-init
loop-link-init c =
    let v : View = knows c.args.pass.now in
    let here = held_image v c.args.anchor.now c.requires.prepared.0.0 in (
      c.requires.of,
      (refl, refl),
      seen_same v,
      subst (λ (m : RowImage). Descends v c.args.anchor.now.row c.args.asked.now m c.left-link.result c.budget-steps.result c.args.above.now.items) here
          (descends_first v c.args.asked.now c.args.anchor.now c.left-link.result c.budget-steps.result c.args.above.now.items
          c.requires.prepared.0 c.requires.prepared.1 c.requires.is_tree c.requires.none c.left-link.ensures),
      λ _. subst (λ (m : RowImage). ShowsAs c.args.anchor.now.words m.words) here (shows_same c.args.anchor.now.words),
    )

pub put-requires-clause-settled : goal.put-requires-clause-settled
put-requires-clause-settled c =
    let v : View = knows c.loop-link.pass in
    let w : View = knows c.take_child.new.pass in
    may_put w c.loop-link.here (image_at v c.loop-link.here).words
    (has_on v w c.loop-link.here (image_at v c.loop-link.here).words (met_rows v w c.loop-link.here c.in-Err.ensures.met) c.loop-link.invariant.3.has)

pub returns-in-Err-clause-backs : goal.returns-in-Err-clause-backs
returns-in-Err-clause-backs c =
    backs_here (knows c.loop-link.pass) (knows c.take_child.new.pass) (knows c.put.new.pass) _ _ _ _ _ _ c.loop-link.invariant.3
    c.in-Err.ensures.met c.put.ensures.given

pub next_link-requires-clause-row : goal.next_link-requires-clause-row
next_link-requires-clause-row c =
    held_row (knows c.take_child.new.pass) c.in-Ok.row (c.in-Ok.ensures.path c.loop-link.above.items c.loop-link.invariant.3).child_has.0

pub stop_at-requires-clause-here : goal.stop_at-requires-clause-here
stop_at-requires-clause-here c =
    let w : View = knows c.take_child.new.pass in
    let x : View = knows c.next_link.new.pass in
    let p = path_same w x c.args.anchor.now.row c.args.asked.now c.loop-link.here c.in-Ok.row c.loop-link.steps c.loop-link.above.items
    c.in_default.ensures.same (c.in-Ok.ensures.path c.loop-link.above.items c.loop-link.invariant.3) in
    held_row x c.loop-link.here p.has.0

pub stop_at-requires-clause-child : goal.stop_at-requires-clause-child
stop_at-requires-clause-child c =
    let w : View = knows c.take_child.new.pass in
    let x : View = knows c.next_link.new.pass in
    let p = path_same w x c.args.anchor.now.row c.args.asked.now c.loop-link.here c.in-Ok.row c.loop-link.steps c.loop-link.above.items
    c.in_default.ensures.same (c.in-Ok.ensures.path c.loop-link.above.items c.loop-link.invariant.3) in
    held_row x c.in-Ok.row p.child_has.0

pub returns-in_default-clause-only : goal.returns-in_default-clause-only
returns-in_default-clause-only c =
    subst (SeesOn (knows c.args.pass.now)) (sym (c.stop_at.ensures.same ∙ c.in_default.ensures.same))
    (seen_on (knows c.args.pass.now) (knows c.loop-link.pass) (knows c.take_child.new.pass) c.loop-link.invariant.2 c.in-Ok.ensures.sees)

pub returns-in_default-clause-arrives : goal.returns-in_default-clause-arrives
returns-in_default-clause-arrives c =
    let w : View = knows c.take_child.new.pass in
    let x : View = knows c.next_link.new.pass in
    let u : View = knows c.stop_at.new.pass in
    let p = path_same w x c.args.anchor.now.row c.args.asked.now c.loop-link.here c.in-Ok.row c.loop-link.steps c.loop-link.above.items
    c.in_default.ensures.same (c.in-Ok.ensures.path c.loop-link.above.items c.loop-link.invariant.3) in
    arrived x u c.args.anchor.now.row c.args.asked.now c.loop-link.here c.in-Ok.row c.loop-link.above.items c.stop_at.result c.stop_at.ensures.same
    c.stop_at.ensures.stop
    (arrives_here x c.args.anchor.now.row c.args.asked.now (image_at x c.loop-link.here) (image_at x c.in-Ok.row) c.loop-link.steps
    c.loop-link.above.items p
    (subst (λ (y : View). overlap (node_of (image_at y c.in-Ok.row).words).range c.args.asked.now ≡ true) (sym c.in_default.ensures.same)
    (ap (overlap (node_of (image_at w c.in-Ok.row).words).range) (sym c.requires.packed) ∙ c.in_default.ensures.link)))

pub returns-in_default-clause-anchor : goal.returns-in_default-clause-anchor
returns-in_default-clause-anchor c =
    let v : View = knows c.loop-link.pass in
    let w : View = knows c.take_child.new.pass in
    let x : View = knows c.next_link.new.pass in
    shows_there x c.args.anchor.now.row c.loop-link.here c.in-Ok.row c.args.anchor.now.words c.stop_at.result c.stop_at.ensures.stop
    (λ top. subst (λ (y : View). ShowsAs c.args.anchor.now.words (image_at y c.loop-link.here).words) (sym c.in_default.ensures.same)
    (shows_on c.args.anchor.now.words (image_at v c.loop-link.here).words (image_at w c.loop-link.here).words
    (c.loop-link.invariant.4 top) (c.in-Ok.ensures.stays.1 top)))

pub put-requires-then-steps-gt0-clause-settled : goal.put-requires-then-steps-gt0-clause-settled
put-requires-then-steps-gt0-clause-settled c =
    let w : View = knows c.take_child.new.pass in
    let x : View = knows c.next_link.new.pass in
    let p = path_same w x c.args.anchor.now.row c.args.asked.now c.loop-link.here c.in-Ok.row c.loop-link.steps c.loop-link.above.items
    c.in-Some.ensures.same (c.in-Ok.ensures.path c.loop-link.above.items c.loop-link.invariant.3) in
    may_put x c.loop-link.here (image_at x c.loop-link.here).words p.has

pub put-requires-then-is_err-clause-settled : goal.put-requires-then-is_err-clause-settled
put-requires-then-is_err-clause-settled c =
    let w : View = knows c.take_child.new.pass in
    let x : View = knows c.next_link.new.pass in
    let p = path_same w x c.args.anchor.now.row c.args.asked.now c.loop-link.here c.in-Ok.row c.loop-link.steps c.loop-link.above.items
    c.in-Some.ensures.same (c.in-Ok.ensures.path c.loop-link.above.items c.loop-link.invariant.3) in
    may_put x c.loop-link.here (image_at x c.loop-link.here).words p.has

pub put-requires-then-is_err-2-clause-settled : goal.put-requires-then-is_err-2-clause-settled
put-requires-then-is_err-2-clause-settled c =
    let w : View = knows c.take_child.new.pass in
    let x : View = knows c.next_link.new.pass in
    let u : View = knows c.put-then-is_err.new.pass in
    let p = path_same w x c.args.anchor.now.row c.args.asked.now c.loop-link.here c.in-Ok.row c.loop-link.steps c.loop-link.above.items
    c.in-Some.ensures.same (c.in-Ok.ensures.path c.loop-link.above.items c.loop-link.invariant.3) in
    may_put u c.in-Ok.row (image_at x c.in-Ok.row).words
    (child_put x c.args.anchor.now.row c.args.asked.now (image_at x c.loop-link.here) (image_at x c.in-Ok.row) c.loop-link.steps c.loop-link.above.items p
    u c.put-then-is_err.ensures.given)

pub returns-then-is_err-clause-only : goal.returns-then-is_err-clause-only
returns-then-is_err-clause-only c =
    let x : View = knows c.next_link.new.pass in
    let sees = subst (SeesOn (knows c.args.pass.now)) (sym c.in-Some.ensures.same)
    (seen_on (knows c.args.pass.now) (knows c.loop-link.pass) (knows c.take_child.new.pass) c.loop-link.invariant.2 c.in-Ok.ensures.sees) in
    seen_then (knows c.args.pass.now) (knows c.put-then-is_err.new.pass) (knows c.put-then-is_err-2.new.pass)
    (seen_then (knows c.args.pass.now) x (knows c.put-then-is_err.new.pass) sees
    (rows_put x (knows c.put-then-is_err.new.pass) c.loop-link.here c.put-then-is_err.ensures.given))
    (rows_put (knows c.put-then-is_err.new.pass) (knows c.put-then-is_err-2.new.pass) c.in-Ok.row c.put-then-is_err-2.ensures.given)

pub returns-then-is_err-clause-backs : goal.returns-then-is_err-clause-backs
returns-then-is_err-clause-backs c =
    let w : View = knows c.take_child.new.pass in
    let x : View = knows c.next_link.new.pass in
    let p = path_same w x c.args.anchor.now.row c.args.asked.now c.loop-link.here c.in-Ok.row c.loop-link.steps c.loop-link.above.items
    c.in-Some.ensures.same (c.in-Ok.ensures.path c.loop-link.above.items c.loop-link.invariant.3) in
    let items : c.push.new.self.items ≡ c.loop-link.above.items = search rules in
    subst (Backs (knows c.put-then-is_err-2.new.pass)) (sym items)
    (backs_both x c.args.anchor.now.row c.args.asked.now (image_at x c.loop-link.here) (image_at x c.in-Ok.row) c.loop-link.steps c.loop-link.above.items p
    (knows c.put-then-is_err.new.pass) c.put-then-is_err.ensures.given (knows c.put-then-is_err-2.new.pass) c.put-then-is_err-2.ensures.given)

-- the link leads on from the child
goes : (w x : View) (packed asked : Interval) (child link : ℕ) → x ≡ w → packed ≡ asked → GoesTo packed (node_of (image_at w child).words) link
    → GoesTo asked (node_of (image_at x child).words) link
goes w x packed asked child link same is leads =
    subst (λ (y : View). GoesTo asked (node_of (image_at y child).words) link) (sym same)
    (subst (λ (a : Interval). GoesTo a (node_of (image_at w child).words) link) is leads)

pub loop-link-smaller-then-steps-gt0 : goal.loop-link-smaller-then-steps-gt0
loop-link-smaller-then-steps-gt0 c =
    let taken = c.in-Ok.ensures.free in
    let more = c.if-steps-gt0.true in
    let w : View = knows c.take_child.new.pass in
    let x : View = knows c.next_link.new.pass in
    let same : free_rows x.held ≡ free_rows w.held = ap (λ (y : View). free_rows y.held) c.in-Some.ensures.same in
    let p = path_same w x c.args.anchor.now.row c.args.asked.now c.loop-link.here c.in-Ok.row c.loop-link.steps c.loop-link.above.items
    c.in-Some.ensures.same (c.in-Ok.ensures.path c.loop-link.above.items c.loop-link.invariant.3) in
    let put = put_free_rows x c.args.anchor.now.row c.args.asked.now (image_at x c.loop-link.here) (image_at x c.in-Ok.row) c.loop-link.steps
    c.loop-link.above.items p (knows c.put-then-steps-gt0.new.pass) c.put-then-steps-gt0.ensures.given in
    omega arith

pub loop-link-smaller : goal.loop-link-smaller
loop-link-smaller c =
    let taken = c.in-Ok.ensures.free in
    let none = c.if-steps-gt0.false in
    let w : View = knows c.take_child.new.pass in
    let x : View = knows c.next_link.new.pass in
    let same : free_rows x.held ≡ free_rows w.held = ap (λ (y : View). free_rows y.held) c.in-Some.ensures.same in
    omega arith

-- the child stands below the anchors
below_anchors : (v : View) (tb : RowTable) (tree row : ℕ) → v.plan ≡ tb.plan → v.plan.trees < row → tree < tb.plan.trees → tree < row
below_anchors v tb tree row is far top = let more = subst (λ (k : RowPlan). k.trees < row) is far in omega arith

pub loop-link-preserved-then-steps-gt0 : goal.loop-link-preserved-then-steps-gt0
loop-link-preserved-then-steps-gt0 c =
    let i = c.loop-link.invariant in
    let o = c.in-Ok.ensures.of in
    let n = c.in-Some.ensures.of in
    let w : View = knows c.take_child.new.pass in
    let x : View = knows c.next_link.new.pass in
    let u : View = knows c.put-then-steps-gt0.new.pass in
    let path = c.in-Ok.ensures.path c.loop-link.above.items i.3 in
    let below = below_anchors w c.args.table.now c.args.anchor.now.row c.in-Ok.row o.0.1 path.further c.requires.tree in
    let p = path_same w x c.args.anchor.now.row c.args.asked.now c.loop-link.here c.in-Ok.row c.loop-link.steps c.loop-link.above.items
    c.in-Some.ensures.same path in
    let leads = goes w x c.args.packed.now.range c.args.asked.now c.in-Ok.row c.in-Some.next c.in-Some.ensures.same c.requires.packed c.in-Some.ensures.link in
    let put = c.put-then-steps-gt0.ensures.of in
    let sees = subst (SeesOn (knows c.args.pass.now)) (sym c.in-Some.ensures.same)
    (seen_on (knows c.args.pass.now) (knows c.loop-link.pass) w i.2 c.in-Ok.ensures.sees) in (
      put.0,
      (put.1.0 ∙ (n.1.0 ∙ (o.1.0 ∙ i.1.0)), put.1.1 ∙ (n.1.1 ∙ (o.1.1 ∙ i.1.1))),
      seen_then (knows c.args.pass.now) x u sees (rows_put x u c.loop-link.here c.put-then-steps-gt0.ensures.given),
      descends_image u c.args.anchor.now.row c.args.asked.now (image_at x c.in-Ok.row) c.in-Some.next _ c.loop-link.above.items
          (put_on x c.args.anchor.now.row c.args.asked.now (image_at x c.loop-link.here) (image_at x c.in-Ok.row) c.loop-link.steps c.loop-link.above.items p u
          c.put-then-steps-gt0.ensures.given c.in-Some.next leads c.if-steps-gt0.true),
      λ is. absurd (omega (arith, is, below)),
    )

pub loop-link-preserved : goal.loop-link-preserved
loop-link-preserved c =
    let i = c.loop-link.invariant in
    let o = c.in-Ok.ensures.of in
    let n = c.in-Some.ensures.of in
    let w : View = knows c.take_child.new.pass in
    let x : View = knows c.next_link.new.pass in
    let path = c.in-Ok.ensures.path c.loop-link.above.items i.3 in
    let below = below_anchors w c.args.table.now c.args.anchor.now.row c.in-Ok.row o.0.1 path.further c.requires.tree in
    let p = path_same w x c.args.anchor.now.row c.args.asked.now c.loop-link.here c.in-Ok.row c.loop-link.steps c.loop-link.above.items
    c.in-Some.ensures.same path in
    let leads = goes w x c.args.packed.now.range c.args.asked.now c.in-Ok.row c.in-Some.next c.in-Some.ensures.same c.requires.packed c.in-Some.ensures.link in
    let items : c.push.new.self.items ≡ c.loop-link.above.items ++ c.loop-link.here ∷ [] = search rules in
    let none = c.if-steps-gt0.false in
    let used : c.loop-link.steps ≡ 0 = omega arith in (
      n.0,
      (n.1.0 ∙ (o.1.0 ∙ i.1.0), n.1.1 ∙ (o.1.1 ∙ i.1.1)),
      subst (SeesOn (knows c.args.pass.now)) (sym c.in-Some.ensures.same)
          (seen_on (knows c.args.pass.now) (knows c.loop-link.pass) w i.2 c.in-Ok.ensures.sees),
      subst (λ (k : ℕ). Descends x c.args.anchor.now.row c.args.asked.now (image_at x c.in-Ok.row) c.in-Some.next k c.push.new.self.items) (sym used)
          (keep_on x c.args.anchor.now.row c.args.asked.now (image_at x c.loop-link.here) (image_at x c.in-Ok.row) c.loop-link.steps c.loop-link.above.items p
          c.push.new.self.items items c.in-Some.next leads used),
      λ is. absurd (omega (arith, is, below)),
    )

pub load_row-here-requires-clause-row : goal.load_row-here-requires-clause-row
load_row-here-requires-clause-row c = held_row (knows c.loop-link.pass) c.loop-link.here c.loop-link.invariant.3.has.0

pub returns-clause-only : goal.returns-clause-only
returns-clause-only c = subst (SeesOn (knows c.args.pass.now)) (sym c.load_row-here.ensures.same) c.loop-link.invariant.2

-- the loaded row is the one that is held
loaded : (v : View) (row : ℕ) (image : RowImage) → image.row ≡ row → image.words ≡ (image_at v row).words → image_at v row ≡ image
loaded v row image is words i = record { row = sym is i; words = sym words i }

pub returns-clause-arrives : goal.returns-clause-arrives
returns-clause-arrives c =
    let v : View = knows c.loop-link.pass in
    let u : View = knows c.load_row-here.new.pass in
    subst (λ (y : View). Arrives y c.args.anchor.now.row c.args.asked.now c.load_row-here.result None c.loop-link.above.items) (sym c.load_row-here.ensures.same)
    (subst (λ (m : RowImage). Arrives v c.args.anchor.now.row c.args.asked.now m None c.loop-link.above.items)
    (loaded v c.loop-link.here c.load_row-here.result c.load_row-here.ensures.words.0 c.load_row-here.ensures.words.1)
    (arrives_last v _ _ _ _ _ _ c.loop-link.invariant.3 c.loop-link-test.false))

pub returns-clause-anchor : goal.returns-clause-anchor
returns-clause-anchor c is =
    let v : View = knows c.loop-link.pass in
    subst (λ (m : RowImage). ShowsAs c.args.anchor.now.words m.words)
    (loaded v c.loop-link.here c.load_row-here.result c.load_row-here.ensures.words.0 c.load_row-here.ensures.words.1)
    (c.loop-link.invariant.4 (sym c.load_row-here.ensures.words.0 ∙ is))
