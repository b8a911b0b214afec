-- What is read of a language, of which so many first bytes decide.
use Rattle.std.proofs.Common.{◌≡◌, ◌≢◌, ◌⊎◌, ⊎_elim, ◌++◌, ◌<◌, ◌≤◌, ℕ, List, length, take, drop, Some, None, IfSome, inl, inr, arith}
use Rattle.std.proofs.Common.{subst, sym, ◌∙◌, ap, refl}
use Rattle.std.proofs.lemmas.Bool.{cases_lt}
use Rattle.std.proofs.lemmas.List.{take_all, length-take, take-append-drop}
use Rattle.std.specs.declared.option.Option.{Option}
use Rattle.lt_edge.specs.Bytes.{ReadsUpTo}
use Rattle.lt_trace.specs.Grammar.{OrNoMemory}
use Rattle.lt_trace.specs.declared.fault.TraceFault.{TraceFault}
use Rattle.lt_trace.specs.declared.fault.TraceFault.TheVariants as fault
use Rattle.lt_trace.proofs.FaultLaws as trace
use Rattle.lt_trace.proofs.LengthLaws as trace_length
use Rattle.lt_script.proofs.FaultLaws as script
use Rattle.lt_script.proofs.LengthLaws as script_length
use Rattle.lt_program.specs.Languages.{Language, traces, scripts, IsNone}
use Rattle.lt_program.specs.Statuses.{ReadsEnough, PlaysOrRefuses}

-- Each text is short, no text has a fault, and the first fault of so many bytes is that of whatever goes on so.
pub record IsDecided (language : Language) : Type 0 where
  pub short : (bytes : List ℕ) (t : language.Text) → language.Spells bytes t → length bytes < language.deciding
  pub apart : (bytes : List ℕ) (t : language.Text) (f : TraceFault) → language.Spells bytes t → language.IsFirstFault bytes f → ⊥
  pub decide : (bytes more : List ℕ) (f : TraceFault) → language.deciding ≤ length bytes → language.IsFirstFault bytes f
      → language.IsFirstFault (bytes ++ more) f

pub traces_decided : IsDecided traces
traces_decided = record {
  short = trace_length.traces_are_short;
  apart = trace.spelled_not_refused;
  decide = trace_length.first_bytes_decide;
}

pub scripts_decided : IsDecided scripts
scripts_decided = record {
  short = script_length.scripts_are_short;
  apart = script.spelled_not_refused;
  decide = script_length.first_bytes_decide;
}

-- a fault that is no want of memory is the first one
pub refused_first : (Is : TraceFault → Type 0) (f : TraceFault) → f ≢ fault.OutOfMemory → OrNoMemory Is f → Is f
refused_first Is (fault.BadHeader line) other r = r
refused_first Is (fault.BadLine line) other r = r
refused_first Is (fault.LineTooLong line) other r = r
refused_first Is (fault.TooManyLines line) other r = r
refused_first Is (fault.TreeOutOfRange line) other r = r
refused_first Is (fault.KeyTooLong line) other r = r
refused_first Is (fault.Backwards line) other r = r
refused_first Is (fault.AfterEnd line) other r = r
refused_first Is (fault.TooManyTxns line) other r = r
refused_first Is (fault.NoFinalNewline line) other r = r
refused_first Is fault.OutOfMemory other r = absurd (other refl)

-- what a short list is taken of is that list
take_short : (n : ℕ) (all bytes : List ℕ) → bytes ≡ take n all → length bytes < n → bytes ≡ all
take_short n all bytes e short =
    e ∙ take_all n all (omega (arith, ap length e, length-take n all))

module _ (language : Language) (laws : IsDecided language) where
  -- what refuses so many first bytes refuses all
  first_fault_of_all : (all bytes : List ℕ) (f : TraceFault) → bytes ≡ take language.deciding all → language.IsFirstFault bytes f
      → language.IsFirstFault all f
  first_fault_of_all all bytes f e first =
      ⊎_elim
      (λ short.
      let P : List ℕ → Type 0 = λ b. language.IsFirstFault b f in
      subst P (e ∙ take_all language.deciding all (omega (arith, short))) first)
      (λ long.
      let whole : bytes ++ drop language.deciding all ≡ all =
      ap (λ (b : List ℕ). b ++ drop language.deciding all) e ∙ take-append-drop language.deciding all in
      let P : List ℕ → Type 0 = λ b. language.IsFirstFault b f in
      subst P whole (laws.decide bytes (drop language.deciding all) f
      (omega (arith, long, ap length e, length-take language.deciding all)) first))
      (cases_lt (length all) language.deciding)

  pub is_none : (bytes : List ℕ) (f : TraceFault) → language.IsFirstFault bytes f → IsNone language bytes f
  is_none bytes f first = record { none = λ t spelled. laws.apart bytes t f spelled first; first = first }

  pub all_none : (left : Option (List ℕ)) (bytes : List ℕ) (f : TraceFault) → ReadsUpTo language.deciding left bytes
      → language.IsFirstFault bytes f → IfSome left (λ all. IsNone language all f)
  all_none None bytes f reads first = tt
  all_none (Some all) bytes f reads first = is_none all f (first_fault_of_all all bytes f (reads all refl) first)

  module _ (left rest : Option (List ℕ)) (bytes : List ℕ) (read : ReadsEnough language left rest bytes) (status : ℕ) where
    -- a text of the language was done
    pub done_completes : (t : language.Text) → language.Spells bytes t → status ≡ 0 → PlaysOrRefuses language left status
    done_completes t is s = record {
      spelled = λ all other told spelled. inl s;
      none = λ all told none.
          absurd (none t (let P : List ℕ → Type 0 = λ b. language.Spells b t in
          subst P (take_short language.deciding all bytes (read.bytes_read all told) (laws.short bytes t is)) is));
    }

    -- and other bytes were refused
    pub refusal_completes : (f : TraceFault) → language.IsFirstFault bytes f → status ≡ 3 → PlaysOrRefuses language left status
    refusal_completes f first s = record {
      spelled = λ all t told spelled.
          let short = laws.short all t spelled in
          let same : bytes ≡ all = read.bytes_read all told ∙ take_all language.deciding all (omega (arith, short)) in
          absurd (laws.apart bytes t f (let P : List ℕ → Type 0 = λ b. language.Spells b t in subst P (sym same) spelled) first);
      none = λ all told none. inl s;
    }
