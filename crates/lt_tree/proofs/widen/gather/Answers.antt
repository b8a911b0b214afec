use Rattle.std.proofs.Common.{rules, ◌≡◌, ◌<◌, suc, inl, inr, ◌⊎◌, true, None, ◌+◌, List, length, sym, ap, ◌∙◌, subst, arith, refl}
use Rattle.std.specs.Prelude.{slice_index}
use Rattle.lt_forest.specs.declared.part.PartRow.{PartRow}
use Rattle.lt_rows.specs.Handles.{knows}
use Rattle.lt_tree.specs.Gathers.{Passed, aside_at}
use Rattle.lt_tree.proofs.ViewLaws.{rows_on, keeps_on}
use Rattle.lt_tree.proofs.TakingLaws.{long_hangs, read_at}
use Rattle.lt_tree.proofs.PassingLaws.{passed_next, passed_placed, passed_all}
use Rattle.lt_tree.proofs.widen.gather.Goals as goal
use Rattle.lt_tree.proofs.widen.gather.Goals.{then-index-eq0, else-index-eq0}

pub is_aside-requires : goal.is_aside-requires
is_aside-requires c =
    let i = c.loop-at.invariant in
    let h = long_hangs (knows c.loop-at.pass) c.args.tree c.args.asked.now c.args.here c.loop-at.part.rows.items c.loop-at.part.hangs.items i.3 in
    let d = ap (λ (xs : List PartRow). length xs) c.deref.ensures.value in
    let lt : c.loop-at.at < length c.loop-at.part.hangs.items = search rules in
    record { place = omega arith }

pub loop-at-preserved-then-is_aside : goal.loop-at-preserved-then-is_aside
loop-at-preserved-then-is_aside c =
    let i = c.loop-at.invariant in
    let h = long_hangs (knows c.loop-at.pass) c.args.tree c.args.asked.now c.args.here c.loop-at.part.rows.items c.loop-at.part.hangs.items i.3 in
    let lt : c.loop-at.at < length c.loop-at.part.hangs.items = search rules in
    let how : (slice_index c.loop-at.part.hangs.items c.loop-at.at ≡ 0) ⊎ (aside_at c.args.asked.now None c.loop-at.part.rows.items c.loop-at.at ≡ true) = elim c.if-index-eq0.branch [
      | then-index-eq0 w ↦ inl (sym (read_at c.loop-at.part.hangs.items c.loop-at.part.hangs.items c.loop-at.at c.index.result.now refl lt c.index.ensures) ∙ w.if-index-eq0.true)
      | else-index-eq0 w ↦ inr (ap (λ (xs : List PartRow). aside_at c.args.asked.now None xs c.loop-at.at) (sym w.deref.ensures.value) ∙ (sym w.is_aside.ensures.aside ∙ (sym w.value-is ∙ c.if-is_aside.true)))
    ] in
    let n : suc c.loop-at.at ≡ c.loop-at.at + 1 = omega arith in (
      i.0,
      i.1,
      i.2,
      i.3,
      subst (Passed c.args.asked.now None c.loop-at.part.rows.items c.loop-at.part.hangs.items) n
          (passed_next c.args.asked.now None c.loop-at.part.rows.items c.loop-at.part.hangs.items c.loop-at.at h lt i.4 how),
      omega arith,
      i.6,
    )

pub loop-at-preserved : goal.loop-at-preserved
loop-at-preserved c =
    let i = c.loop-at.invariant in
    let h = long_hangs (knows c.loop-at.pass) c.args.tree c.args.asked.now c.args.here c.loop-at.part.rows.items c.loop-at.part.hangs.items i.3 in
    let lt : c.loop-at.at < length c.loop-at.part.hangs.items = search rules in
    let o = c.widen_at.ensures.of in
    let wide = c.in-Ok.ensures.wider in
    let long = wide.1 in (
      o.0,
      (o.1.0 ∙ i.1.0, o.1.1 ∙ i.1.1),
      rows_on (knows c.args.pass.now) (knows c.loop-at.pass) (knows c.widen_at.new.pass) i.2 c.widen_at.ensures.only,
      c.widen_at.ensures.locked,
      passed_placed c.args.asked.now c.loop-at.part.rows.items c.widen_at.new.part.rows.items c.loop-at.part.hangs.items c.widen_at.new.part.hangs.items c.loop-at.at h lt c.in-Ok.ensures.placed i.4,
      omega arith,
      keeps_on (knows c.args.pass.now) (knows c.loop-at.pass) (knows c.widen_at.new.pass) i.6 c.widen_at.ensures.kept,
    )

pub returns-clause-closed : goal.returns-clause-closed
returns-clause-closed c =
    let i = c.loop-at.invariant in
    let h = long_hangs (knows c.loop-at.pass) c.args.tree c.args.asked.now c.args.here c.loop-at.part.rows.items c.loop-at.part.hangs.items i.3 in
    let le = i.5 in
    let not_less = c.loop-at-test.false in
    let all : c.loop-at.at ≡ length c.loop-at.part.hangs.items = omega arith in
    passed_all c.args.asked.now None c.loop-at.part.rows.items c.loop-at.part.hangs.items c.loop-at.at h all i.4
