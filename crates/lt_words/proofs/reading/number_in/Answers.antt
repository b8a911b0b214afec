use Rattle.std.proofs.Common.{ap, Some, ◌∙◌}
use Rattle.std.proofs.lemmas.Option.{IfSome_then}
use Rattle.clap.specs.declared.parser.matches.ArgMatches.TheViews.{out-ArgMatches}
use Rattle.lt_words.proofs.ReadingLaws.{if_none, if_none_so, nothing_given, no_number_so, text_given}
use Rattle.lt_words.proofs.reading.number_in.Goals as goal

pub returns-in_err-get_str-clause-none : goal.returns-in_err-get_str-clause-none
returns-in_err-get_str-clause-none c =
    if_none _ (nothing_given (out-ArgMatches c.args.values.now).found c.args.name.now c.in_err-get_str.ensures c.args.least c.args.most)

pub returns-clause-some : goal.returns-clause-some
returns-clause-some c = IfSome_then c.number.result c.number.ensures.found (λ n is. record {
  text = c.as_bytes.result.now;
  found = text_given (out-ArgMatches c.args.values.now).found c.args.name.now _
      (ap Some c.as_bytes.ensures.value ∙ c.in_ok-get_str.ensures);
  number = is;
})

pub returns-clause-none : goal.returns-clause-none
returns-clause-none c = if_none_so _
    (no_number_so c.number.result (out-ArgMatches c.args.values.now).found c.args.name.now c.as_bytes.result.now c.args.least c.args.most
    (ap Some c.as_bytes.ensures.value ∙ c.in_ok-get_str.ensures) c.number.ensures.none)
