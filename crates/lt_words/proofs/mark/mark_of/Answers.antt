use Rattle.lt_ranges.specs.declared.key.Key.TheVariants.{Bytes}
use Rattle.lt_words.proofs.ReadingLaws.{if_none}
use Rattle.lt_words.proofs.MarkLaws.{no_mark, none_read, one_read}
use Rattle.lt_words.proofs.mark.mark_of.Goals as goal

pub returns-in_err-key-clause-none : goal.returns-in_err-key-clause-none
returns-in_err-key-clause-none c = if_none _
    (no_mark c.args.text.now c.read.result c.read.ensures.value c.read.ensures.of_bytes c.read.ensures.fault
    (λ bytes is. none_read c.read.result (Bytes bytes) c.in_err-key.ensures.value is))

pub returns-in_default : goal.returns-in_default
returns-in_default c = record {
  some = tt;
  none = no_mark c.args.text.now c.read.result c.read.ensures.value c.read.ensures.of_bytes c.read.ensures.fault
      (λ bytes is. c.in_default.not-Bytes bytes (one_read c.read.result c.in_ok-key.key (Bytes bytes) c.in_ok-key.ensures.value is));
}
