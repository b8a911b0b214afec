-- What the statuses say where a script was read.
use Rattle.std.proofs.Common.{◌≡◌, ◌≢◌, ◌⊎◌, ◌<◌, ℕ, List, length, inl, inr, arith, subst, Result, Ok, Err, IfOk}
use Rattle.std.specs.declared.option.Option.{Option}
use Rattle.std.specs.Io.KnownBytes.{Appends, IsAtEnd}
use Rattle.lt_edge.specs.Bytes.{AppendsPart}
use Rattle.lt_trace.specs.declared.fault.TraceFault.{TraceFault}
use Rattle.lt_script.specs.Grammar.{IsFirstFault, Refuses as IsRefused}
use Rattle.lt_program.specs.Answers.{IsAnswerToScript, IsRefusalFor, status_of, bytes_of}
use Rattle.lt_program.specs.Languages.{scripts}
use Rattle.lt_program.specs.Statuses.{ReadsEnough, Stores, Refuses, BreaksOffScript, PlaysOrRefuses}
use Rattle.lt_program.specs.declared.answer.Answer.{Answer}
use Rattle.lt_program.specs.declared.answer.Answer.TheVariants.{Text, Refusal}
use Rattle.lt_program.proofs.LanguageLaws.{refused_first, scripts_decided, is_none, all_none, done_completes, refusal_completes}

-- a refusal for a fault of these bytes is an answer to them
pub refusal_answers_script : {E : Type 0} (bytes : List ℕ) (f : TraceFault) (result : Result Answer E) → IsRefused bytes f
    → IfOk result (IsRefusalFor f) → IfOk result (IsAnswerToScript bytes)
refusal_answers_script bytes f (Ok (Text text)) refuses is = absurd is
refusal_answers_script bytes f (Ok (Refusal line)) refuses is =
    record { fault = f; first = refused_first (IsFirstFault bytes) f is.0 refuses; line_is = is.1 }
refusal_answers_script bytes f (Err e) refuses is = tt

module _ (left rest : Option (List ℕ)) (status : ℕ) (bytes : List ℕ) (read : ReadsEnough scripts left rest bytes) where
  pub script_completes : (a : Answer) → IsAnswerToScript bytes a → (status ≡ status_of a) ⊎ (status ≡ 5) → status ≢ 5
      → PlaysOrRefuses scripts left status
  script_completes (Text text) is (inl s) five = done_completes scripts scripts_decided left rest bytes read status is.script is.spelled s
  script_completes (Refusal line) is (inl s) five = refusal_completes scripts scripts_decided left rest bytes read status is.fault is.first s
  script_completes a is (inr s) five = absurd (five s)

module _ (left rest before after : Option (List ℕ)) (status : ℕ) (bytes : List ℕ) (read : ReadsEnough scripts left rest bytes) where
  pub stores : (a : Answer) → IsAnswerToScript bytes a → (length bytes < scripts.deciding → IsAtEnd rest)
      → (status ≡ status_of a) ⊎ (status ≡ 5) → (status ≢ 5 → Appends before after (bytes_of a)) → status ≡ 0
      → Stores left rest before after
  stores (Text text) is end s all done = record {
    bytes = bytes;
    script = is.script;
    text = text.items;
    read = record { read = read.read; end = end (scripts_decided.short bytes is.script is.spelled) };
    spelled = is.spelled;
    run = is.run;
    written = all (λ five. omega arith);
  }
  stores (Refusal line) is end (inl s) all done = absurd (omega arith)
  stores (Refusal line) is end (inr s) all done = absurd (omega arith)

  pub script_refuses : (a : Answer) → IsAnswerToScript bytes a → (status ≡ status_of a) ⊎ (status ≡ 5)
      → (status ≢ 5 → Appends before after (bytes_of a)) → status ≡ 3 → Refuses scripts left rest before after
  script_refuses (Text text) is (inl s) all done = absurd (omega arith)
  script_refuses (Text text) is (inr s) all done = absurd (omega arith)
  script_refuses (Refusal line) is s all done = record {
    bytes = bytes;
    fault = is.fault;
    read = read;
    wrong = is_none scripts scripts_decided bytes is.fault is.first;
    all_wrong = all_none scripts scripts_decided left bytes is.fault read.bytes_read is.first;
    written = (let P : List ℕ → Type 0 = λ t. Appends before after t in subst P is.line_is (all (λ five. omega arith)));
  }

  pub script_breaks : (a : Answer) → IsAnswerToScript bytes a → AppendsPart before after (bytes_of a) → BreaksOffScript left rest before after
  script_breaks a is part = record { bytes = bytes; answer = a; read = read; right = is; written = part }
