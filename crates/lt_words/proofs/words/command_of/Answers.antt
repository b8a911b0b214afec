use Rattle.std.proofs.Common.{string_bytes}
use Rattle.lt_words.proofs.WordLaws.{unplain_is_none}
use Rattle.lt_words.proofs.words.command_of.Goals as goal

pub returns-then-not-are_plain-clause-none : goal.returns-then-not-are_plain-clause-none
returns-then-not-are_plain-clause-none c =
    unplain_is_none string_bytes c.args.words.now c.are_plain.result c.are_plain.ensures c.if-not-are_plain.true
