use Rattle.std.proofs.Common.{ap, Some, codes, ◌∙◌}
use Rattle.std.proofs.lemmas.Option.{IfSome_then}
use Rattle.clap.specs.declared.parser.matches.ArgMatches.TheViews.{out-ArgMatches}
use Rattle.lt_words.proofs.ReadingLaws.{if_none, no_key, no_mark_so, text_given}
use Rattle.lt_words.proofs.reading.mark_in.Goals as goal

pub returns-in_err-get_str-clause-none : goal.returns-in_err-get_str-clause-none
returns-in_err-get_str-clause-none c = if_none _ (no_key (out-ArgMatches c.args.values.now).found c.in_err-get_str.ensures)

pub returns-clause-some : goal.returns-clause-some
returns-clause-some c = IfSome_then c.mark_of.result c.mark_of.ensures.some (λ mark is. record {
  text = c.as_bytes.result.now;
  found = text_given (out-ArgMatches c.args.values.now).found (codes "KEY") _ (ap Some c.as_bytes.ensures.value ∙ c.in_ok-get_str.ensures);
  spells = is;
})

pub returns-clause-none : goal.returns-clause-none
returns-clause-none c = no_mark_so c.mark_of.result (out-ArgMatches c.args.values.now).found c.as_bytes.result.now
    (ap Some c.as_bytes.ensures.value ∙ c.in_ok-get_str.ensures) c.mark_of.ensures.none
