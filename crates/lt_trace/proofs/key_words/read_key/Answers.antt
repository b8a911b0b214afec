use Rattle.std.proofs.Common.{◌≡◌, refl, ◌∙◌, arith}
use Rattle.lt_ranges.specs.declared.key.Key.{Key}
use Rattle.lt_ranges.specs.KeyText.{key_text}
use Rattle.lt_trace.specs.Grammar.{HasKind}
use Rattle.lt_trace.proofs.KeyWordLaws.{kind_without_star, kind_of_later}
use Rattle.lt_trace.proofs.key_words.read_key.Goals as goal
use Rattle.lt_trace.proofs.key_words.read_key.Goals.{After-read, else-version-lt-ENDPOINT_VERSION-via-then-version-lt-ENDPOINT_VERSION+else-has_star, else-version-lt-ENDPOINT_VERSION-via-else-version-lt-ENDPOINT_VERSION}

-- a key whose text came past the test of the star is one of the version
kind : (c : After-read) (key : Key) → c.args.text.now ≡ key_text key → HasKind c.args.version key
kind c key is =
    elim c.else-version-lt-ENDPOINT_VERSION.branch [
      | else-version-lt-ENDPOINT_VERSION-via-then-version-lt-ENDPOINT_VERSION+else-has_star w ↦ kind_without_star c.args.version key (λ front star. w.if-has_star.ensures front (is ∙ star))
      | else-version-lt-ENDPOINT_VERSION-via-else-version-lt-ENDPOINT_VERSION w ↦ kind_of_later c.args.version key (omega arith)
    ]

pub returns-in-Ok : goal.returns-in-Ok
returns-in-Ok c =
    let read = c.in-Ok.ensures in
    (c.in-Ok.key, (kind (goal.at.returns-in-Ok c).After-read c.in-Ok.key read.value, read.of_bytes), read.value, (refl, read.short))

pub returns-in-Err-TooLong : goal.returns-in-Err-TooLong
returns-in-Err-TooLong c =
    let read = rw c.in-Err-TooLong.field-0-is at c.in-Err-TooLong.ensures.fault in
    (read.0, (kind (goal.at.returns-in-Err-TooLong c).After-read read.0 read.3, read.1), read.3, read.2)
