use Rattle.std.proofs.Common.{◌≡◌, ℕ, suc, None, false, nat_lt, ◌≤◌, ◌-◌, length, sym, ap, ◌∙◌, subst, arith, true≢false}
use Rattle.std.proofs.lemmas.Bool.Decides.{nat_tests}
use Rattle.lt_ranges.specs.Key.{key_le}
use Rattle.lt_forest.specs.declared.part.PartRow.{PartRow}
use Rattle.lt_tree.specs.Gathers.{aside_at}
use Rattle.lt_tree.proofs.PassingLaws.{aside_is, aside_before, aside_first, NotBefore, same_read}
use Rattle.lt_tree.proofs.widen.is_aside.Goals as goal
use Rattle.lt_tree.proofs.widen.is_aside.Goals.{then-at-rows, else-at-rows}

lt_false : (a b : ℕ) → b ≤ a → nat_lt a b ≡ false
lt_false a b le = grind (arith, nat_tests)

pub returns-then-is_at_most : goal.returns-then-is_at_most
returns-then-is_at_most c = elim c.if-at-rows.branch [
  | then-at-rows w ↦ record { aside = c.if-is_at_most.true ∙ sym (aside_is c.args.asked.now None c.args.rows.now c.args.at w.index-rows-at.result w.if-at-rows.true w.index-rows-at.is (ap (λ (p : PartRow). key_le p.range.left c.args.asked.now.left) w.index-rows-at.is ∙ (ap (λ k. key_le k c.args.asked.now.left) (sym w.left.ensures.value) ∙ (ap (key_le w.left.result) (sym w.left-then-at-rows.ensures.value) ∙ (sym w.is_at_most.ensures ∙ (sym w.value-is ∙ c.if-is_at_most.true)))))) }
  | else-at-rows w ↦ absurd (true≢false (sym c.if-is_at_most.true ∙ (w.value-is ∙ lt_false c.args.at (length c.args.rows.now) (let n = w.if-at-rows.false in omega arith))))
]

pub returns-then-at-gt0 : goal.returns-then-at-gt0
returns-then-at-gt0 c =
    let none : NotBefore c.args.asked.now c.args.rows.now c.args.at = λ y lt e. elim c.if-at-rows.branch [
      | then-at-rows w ↦ ap (λ (p : PartRow). key_le p.range.left c.args.asked.now.left) (same_read c.args.rows.now c.args.at y w.index-rows-at.result lt e w.index-rows-at.is) ∙ (ap (λ (p : PartRow). key_le p.range.left c.args.asked.now.left) w.index-rows-at.is ∙ (ap (λ k. key_le k c.args.asked.now.left) (sym w.left.ensures.value) ∙ (ap (key_le w.left.result) (sym w.left-then-at-rows.ensures.value) ∙ (sym w.is_at_most.ensures ∙ (sym w.value-is ∙ c.if-is_at_most.false)))))
      | else-at-rows w ↦ absurd (let n = w.if-at-rows.false in omega arith)
    ] in
    let pos = c.if-at-gt0.true in
    let place = c.requires.place in
    let n : suc (c.args.at - 1) ≡ c.args.at = omega arith in
    let y = c.index-rows-at-then-at-gt0.result in
    record {
      aside = c.is_at_most-then-at-gt0.ensures
          ∙ (ap (λ k. key_le k c.right-then-at-gt0.result) c.right.ensures.value
          ∙ (ap (key_le c.args.asked.now.right) c.right-then-at-gt0.ensures.value
          ∙ (ap (λ (p : PartRow). key_le c.args.asked.now.right p.range.right) (sym c.index-rows-at-then-at-gt0.is)
          ∙ (sym (aside_before c.args.asked.now None c.args.rows.now (c.args.at - 1) y (omega arith) c.index-rows-at-then-at-gt0.is (subst (NotBefore c.args.asked.now c.args.rows.now) (sym n) none))
          ∙ ap (aside_at c.args.asked.now None c.args.rows.now) n))));
    }

pub returns-else-at-gt0 : goal.returns-else-at-gt0
returns-else-at-gt0 c =
    let none : NotBefore c.args.asked.now c.args.rows.now c.args.at = λ y lt e. elim c.if-at-rows.branch [
      | then-at-rows w ↦ ap (λ (p : PartRow). key_le p.range.left c.args.asked.now.left) (same_read c.args.rows.now c.args.at y w.index-rows-at.result lt e w.index-rows-at.is) ∙ (ap (λ (p : PartRow). key_le p.range.left c.args.asked.now.left) w.index-rows-at.is ∙ (ap (λ k. key_le k c.args.asked.now.left) (sym w.left.ensures.value) ∙ (ap (key_le w.left.result) (sym w.left-then-at-rows.ensures.value) ∙ (sym w.is_at_most.ensures ∙ (sym w.value-is ∙ c.if-is_at_most.false)))))
      | else-at-rows w ↦ absurd (let n = w.if-at-rows.false in omega arith)
    ] in
    let z : c.args.at ≡ 0 = (let no = c.if-at-gt0.false in omega arith) in
    record { aside = lt_false 0 c.args.at (omega arith) ∙ (sym (aside_first c.args.asked.now c.args.rows.now (subst (NotBefore c.args.asked.now c.args.rows.now) z none)) ∙ ap (aside_at c.args.asked.now None c.args.rows.now) (sym z)) }
