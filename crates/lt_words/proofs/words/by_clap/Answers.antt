use Rattle.std.proofs.Common.{map, string_bytes, sym, ◌∙◌}
use Rattle.lt_words.proofs.WordLaws.{are_plain, no_memory_kind, read_is_some, unread_is_none, untaken_is_none}
use Rattle.lt_words.proofs.words.by_clap.Goals as goal

pub returns-in-Ok-clause-some : goal.returns-in-Ok-clause-some
returns-in-Ok-clause-some c =
    read_is_some _ _ _ _ c.in_ok-grammar.ensures (are_plain string_bytes c.args.words.now c.requires)
    c.in-Ok.ensures.matches c.in-Ok.ensures.kinds c.command_in.ensures.some

pub returns-in-Ok-clause-none : goal.returns-in-Ok-clause-none
returns-in-Ok-clause-none c = unread_is_none _ _ _ _ c.in_ok-grammar.ensures c.in-Ok.ensures.matches c.command_in.ensures.none

pub returns-in-Err-2-clause-none : goal.returns-in-Err-2-clause-none
returns-in-Err-2-clause-none c = untaken_is_none _ (map string_bytes c.args.words.now) c.in_ok-grammar.ensures
    (λ taken. no_memory_kind c.kind.result (sym c.eq.ensures ∙ c.if-eq.false) (c.kind.ensures ∙ c.in-Err.ensures.passes taken))
