use Rattle.std.proofs.Common.{refl, sym}
use Rattle.std.specs.declared.cmp.Ordering.TheVariants.{Less, Greater}
use Rattle.lt_rows.proofs.SideLaws.{after, ahead, first_less, first_more}
use Rattle.lt_rows.proofs.packed_range.PackedRange.side_of_words.Goals as goal

pub returns-then-self-words : goal.returns-then-self-words
returns-then-self-words c =
    let s = c.args.self.now in
    after c.args.words.now s.right s.range.right c.requires.packs s.packs_right Greater
    (sym (first_more c.args.words.now s.right c.if-self-words.true)) refl

pub returns-then-words-self : goal.returns-then-words-self
returns-then-words-self c =
    let s = c.args.self.now in
    ahead c.args.words.now s.left s.range.left c.requires.packs s.packs_left Less
    (sym (first_less c.args.words.now s.left c.if-words-self.true)) refl
