use Rattle.std.proofs.Common.{rules, ◌≡◌, ◌∙◌, List, ℕ, take, drop, ap, subst}
use Rattle.lt_ranges.specs.declared.key.Key.{Key}
use Rattle.lt_ranges.specs.Interval.{Interval}
use Rattle.lt_rows.specs.declared.view.View.{View}
use Rattle.lt_rows.specs.declared.range_side.RangeSide.{RangeSide}
use Rattle.lt_rows.specs.declared.range_side.RangeSide.TheVariants.{Before, Meets, Behind}
use Rattle.lt_rows.specs.Nodes.{node_of, key_of}
use Rattle.lt_rows.specs.Sides.{IsSideOf, at}
use Rattle.lt_rows.specs.Views.{row_at, words_of}
use Rattle.lt_rows.specs.Handles.{knows}
use Rattle.lt_rows.proofs.SideLaws.{both_ahead, second_beside, first_meets}
use Rattle.lt_rows.proofs.table.RowTable.compare.Goals as goal

abbrev words : View → ℕ → List ℕ
words v row = words_of (row_at v row)

abbrev left : View → ℕ → Key
left v row = key_of (take 8 (drop 1 (words v row)))

abbrev right : View → ℕ → Key
right v row = key_of (take 8 (drop 9 (words v row)))

-- the loaded words are those of the row's key
lies : (range : Interval) (side : RangeSide) (ws key : List ℕ) → ws ≡ key → IsSideOf (at (key_of ws)) range side → IsSideOf (at (key_of key)) range side
lies range side ws key is s = subst (λ (k : List ℕ). IsSideOf (at (key_of k)) range side) is s

-- those of the right key, which were loaded behind the left ones
right_words : (v w : View) (row : ℕ) (ws : List ℕ) → w ≡ v → ws ≡ take 8 (drop 9 (words w row)) → ws ≡ take 8 (drop 9 (words v row))
right_words v w row ws same is = is ∙ ap (λ (u : View). take 8 (drop 9 (words u row))) same

pub returns-in-Before-side-clause-side : goal.returns-in-Before-side-clause-side
unfolding node_of
returns-in-Before-side-clause-side c =
    let v : View = knows c.args.pass.now in
    let range : Interval = c.args.asked.now.range in
    both_ahead (left v c.args.row) (right v c.args.row) range
    (lies range Before _ _ c.eight_words.ensures.words c.in-Before.ensures)
    (lies range Before _ _ (right_words v (knows c.eight_words.new.pass) c.args.row _ c.eight_words.ensures.same c.eight_words-in-Before.ensures.words)
    c.in-Before-side.ensures)

pub returns-in-Meets-side : goal.returns-in-Meets-side
unfolding node_of
returns-in-Meets-side c =
    let v : View = knows c.args.pass.now in
    let range : Interval = c.args.asked.now.range in
    record {
      of = search rules;
      same = c.eight_words-in-Before.ensures.same ∙ c.eight_words.ensures.same;
      side = second_beside (left v c.args.row) (right v c.args.row) range c.side-in-Before.result c.args.asked.now.ordered
          (lies range Before _ _ c.eight_words.ensures.words c.in-Before.ensures) c.in-Meets-side.is
          (lies range c.side-in-Before.result _ _ (right_words v (knows c.eight_words.new.pass) c.args.row _ c.eight_words.ensures.same c.eight_words-in-Before.ensures.words)
          c.side-in-Before.ensures);
    }

pub returns-in-Meets-clause-side : goal.returns-in-Meets-clause-side
unfolding node_of
returns-in-Meets-clause-side c =
    let v : View = knows c.args.pass.now in
    first_meets (left v c.args.row) (right v c.args.row) c.args.asked.now.range
    (lies c.args.asked.now.range Meets _ _ c.eight_words.ensures.words c.in-Meets.ensures)

pub returns-in-Behind-clause-side : goal.returns-in-Behind-clause-side
unfolding node_of
returns-in-Behind-clause-side c = lies c.args.asked.now.range Behind _ _ c.eight_words.ensures.words c.in-Behind.ensures
