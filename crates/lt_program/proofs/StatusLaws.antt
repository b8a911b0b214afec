-- What the statuses say, from what was read and what was answered.
use Rattle.std.specs.Global.{Vec}
use Rattle.std.proofs.Common.{◌≡◌, ◌≢◌, ◌⊎◌, ◌∷◌, ◌++◌, ◌<◌, ℕ, zero, suc, List, [], length, Some, None, IfSome, Result, Ok, Err, IfOk, IsOk}
use Rattle.std.proofs.Common.{inl, inr, refl, arith, subst, sym, Contains}
use Rattle.std.specs.declared.option.Option.{Option}
use Rattle.std.specs.Io.KnownBytes.{Appends, IsAtEnd}
use Rattle.std.specs.Prelude.{IfNone}
use Rattle.lt_ranges.specs.declared.key.Key.{Key}
use Rattle.lt_edge.specs.Bytes.{AppendsPart}
use Rattle.lt_trace.specs.Grammar.{IsFirstFault, Refuses as IsRefused}
use Rattle.lt_trace.specs.declared.fault.TraceFault.{TraceFault}
use Rattle.lt_watch.specs.Tellings.{Log}
use Rattle.lt_words.specs.Words.{IsCommand, IsNoCommand}
use Rattle.lt_words.specs.declared.command.Recipe.{Recipe}
use Rattle.lt_words.specs.declared.command.Command.{Command}
use Rattle.lt_words.specs.declared.command.Command.TheVariants.{Cut, Store, Make, Sum}
use Rattle.lt_program.specs.Answers.{IsAnswer, IsRefusalFor, IsToldOrNot, status_of, bytes_of, sum_text}
use Rattle.lt_program.specs.Words.{AreMakers}
use Rattle.lt_program.specs.Languages.{traces}
use Rattle.lt_program.specs.Playings.{Playing, cut}
use Rattle.lt_program.specs.Statuses.{ReadsEnough, Plays, Refuses, BreaksOff, TellsRun, TellsOrNot, TellsAsAsked, PlaysOrRefuses, Breaks, IsComplete}
use Rattle.lt_program.specs.declared.answer.Answer.{Answer}
use Rattle.lt_program.specs.declared.answer.Answer.TheVariants.{Text, Refusal}
use Rattle.lt_program.proofs.RunLaws.{text_of_run}
use Rattle.lt_program.proofs.LanguageLaws.{refused_first, traces_decided, is_none, all_none, done_completes, refusal_completes}

-- a refusal for a fault of these bytes is an answer to them, which tells nothing
pub refusal_answers : {E : Type 0} (playing : Playing) (bytes : List ℕ) (f : TraceFault) (result : Result Answer E) (now : List Log)
    → IsRefused bytes f → IfOk result (IsRefusalFor f) → IfOk result (λ answer. IsAnswer playing bytes answer now now)
refusal_answers playing bytes f (Ok (Text text)) now refuses is = absurd is
refusal_answers playing bytes f (Ok (Refusal line)) now refuses is =
    record { fault = f; first = refused_first (IsFirstFault bytes) f is.0 refuses; line_is = is.1; untold = refl }
refusal_answers playing bytes f (Err e) now refuses is = tt

-- no other status comes of writing
pub only_status : (status : ℕ) (a : Answer) → (status ≡ status_of a) ⊎ (status ≡ 5) → Contains (0 ∷ 3 ∷ 4 ∷ 5 ∷ 6 ∷ []) status
only_status status (Text text) (inl s) = (0, omega arith, sym s)
only_status status (Refusal line) (inl s) = (1, omega arith, sym s)
only_status status a (inr s) = (3, omega arith, sym s)

module _ (playing : Playing) (left rest : Option (List ℕ)) (status : ℕ) (bytes : List ℕ) (read : ReadsEnough traces left rest bytes)
    (before now : List Log) where
  pub completes : (a : Answer) → IsAnswer playing bytes a before now → (status ≡ status_of a) ⊎ (status ≡ 5) → status ≢ 5
      → PlaysOrRefuses traces left status
  completes (Text text) is (inl s) five = done_completes traces traces_decided left rest bytes read status is.trace is.spelled s
  completes (Refusal line) is (inl s) five = refusal_completes traces traces_decided left rest bytes read status is.fault is.first s
  completes a is (inr s) five = absurd (five s)

  -- a refusal tells nothing
  pub untold : (a : Answer) → IsAnswer playing bytes a before now → (status ≡ status_of a) ⊎ (status ≡ 5) → (status ≡ 3) ⊎ (status ≡ 4)
      → now ≡ before
  untold (Text text) is (inl s) (inl e) = absurd (omega arith)
  untold (Text text) is (inl s) (inr e) = absurd (omega arith)
  untold (Refusal line) is s e = is.untold
  untold (Text text) is (inr s) (inl e) = absurd (omega arith)
  untold (Text text) is (inr s) (inr e) = absurd (omega arith)

  pub told_or_not : (a : Answer) → IsAnswer playing bytes a before now → TellsOrNot playing left before now
  told_or_not (Text text) is = inr (record { bytes = bytes; text = text.items; read = read.bytes_read; run = is })
  told_or_not (Refusal line) is = inl is.untold

  pub short_told : IsToldOrNot playing bytes before now → TellsOrNot playing left before now
  short_told (inl same) = inl same
  short_told (inr (text, is)) = inr (record { bytes = bytes; text = text; read = read.bytes_read; run = is })

module _ (playing : Playing) (left rest before after : Option (List ℕ)) (status : ℕ) (bytes : List ℕ) (read : ReadsEnough traces left rest bytes)
    (untold told : List Log) where
  pub plays : (a : Answer) → IsAnswer playing bytes a untold told → (length bytes < traces.deciding → IsAtEnd rest)
      → (status ≡ status_of a) ⊎ (status ≡ 5) → (status ≢ 5 → Appends before after (bytes_of a)) → status ≡ 0
      → Plays playing left rest before after untold told
  plays (Text text) is end s all done = record {
    bytes = bytes;
    trace = is.trace;
    text = text.items;
    notes = is.played.notes;
    read = record { read = read.read; end = end (traces_decided.short bytes is.trace is.spelled) };
    spelled = is.spelled;
    work = is.played.run;
    run = text_of_run playing is.trace text.items untold told is.spelled.0 is.played;
    written = all (λ five. omega arith);
    watched = is.played.told;
  }
  plays (Refusal line) is end (inl s) all done = absurd (omega arith)
  plays (Refusal line) is end (inr s) all done = absurd (omega arith)

  pub refuses : (a : Answer) → IsAnswer playing bytes a untold told → (status ≡ status_of a) ⊎ (status ≡ 5)
      → (status ≢ 5 → Appends before after (bytes_of a)) → status ≡ 3 → Refuses traces left rest before after
  refuses (Text text) is (inl s) all done = absurd (omega arith)
  refuses (Text text) is (inr s) all done = absurd (omega arith)
  refuses (Refusal line) is s all done = record {
    bytes = bytes;
    fault = is.fault;
    read = read;
    wrong = is_none traces traces_decided bytes is.fault is.first;
    all_wrong = all_none traces traces_decided left bytes is.fault read.bytes_read is.first;
    written = (let P : List ℕ → Type 0 = λ t. Appends before after t in subst P is.line_is (all (λ five. omega arith)));
  }

  pub breaks : (a : Answer) → IsAnswer playing bytes a untold told → AppendsPart before after (bytes_of a)
      → BreaksOff playing left rest before after untold told
  breaks a is part = record { bytes = bytes; answer = a; read = read; right = is; written = part }

-- Of all commands.

-- what comes of playing, or of giving a text, is a status
pub only_played : (status : ℕ) → Contains (0 ∷ 3 ∷ 4 ∷ 5 ∷ 6 ∷ []) status → Contains (0 ∷ 2 ∷ 3 ∷ 4 ∷ 5 ∷ 6 ∷ []) status
only_played status (zero, within, at) = (0, omega arith, at)
only_played status (suc n, within, at) = (suc (suc n), omega (arith, within), at)

pub only_given : (status : ℕ) → Contains (0 ∷ 5 ∷ 6 ∷ []) status → Contains (0 ∷ 2 ∷ 3 ∷ 4 ∷ 5 ∷ 6 ∷ []) status
only_given status (zero, within, at) = (0, omega arith, at)
only_given status (suc n, within, at) = (suc (suc (suc (suc n))), omega (arith, within), at)

-- where the words are no command, nothing is owed
pub nothing_owed : (words : List (List ℕ)) (left : Option (List ℕ)) (status : ℕ) → IsNoCommand words → IsComplete words left status
nothing_owed words left status none = record {
  plays = λ asked. absurd (none asked.0 asked.1);
  stores = λ asked. absurd (none Store asked);
  makes = makes;
}
  where
    makes : AreMakers words → (status ≡ 0) ⊎ (status ≡ 6)
    makes (recipe, inl form) = absurd (none (Make recipe) form)
    makes (recipe, inr form) = absurd (none (Sum recipe) form)

-- the line of numbers was broken off
pub sum_breaks : {E : Type 0} (words : List (List ℕ)) (marks : List Key) (left rest before after : Option (List ℕ)) (untold told : List Log)
    (command : Command) (recipe : Recipe) (text : Result (Vec ℕ) E)
    → command ≡ Sum recipe → IsCommand words command → IfOk text (λ t. t.items ≡ sum_text recipe)
    → IfOk text (λ t. AppendsPart before after t.items) → IsOk text → Breaks words marks left rest before after untold told
sum_breaks words marks left rest before after untold told command recipe (Ok t) same form is part ok =
    record { command = Sum recipe; form = subst (IsCommand words) same form; part = subst (AppendsPart before after) is part }
sum_breaks words marks left rest before after untold told command recipe (Err e) same form is part ok = cc

-- what a crew over a table with marks tells is as the words ask for
pub cut_tells : (words : List (List ℕ)) (marks now : List Key) (command : Command) (workers : ℕ) (mark : Key) (left : Option (List ℕ))
    (untold told : List Log) → command ≡ Cut workers mark → IsCommand words command → now ≡ marks ++ mark ∷ []
    → TellsOrNot (cut workers now) left untold told → TellsAsAsked words marks left untold told
cut_tells words marks now command workers mark left untold told same form added (inl none) = inl none
cut_tells words marks now command workers mark left untold told same form added (inr run) =
    inr (Cut workers mark, subst (IsCommand words) same form, subst (λ (ms : List Key). TellsRun (cut workers ms) left untold told) added run)

-- the command that was found is the words'
pub found_form : (words : List (List ℕ)) (found : Option Command) (command : Command) → found ≡ Some command
    → IfSome found (IsCommand words) → IsCommand words command
found_form words found command is form = subst (λ o. IfSome o (IsCommand words)) is form

-- where none was found, the words are no command
pub none_found : (words : List (List ℕ)) (found : Option Command) → found ≡ None → IfNone found (IsNoCommand words) → IsNoCommand words
none_found words found is none = subst (λ o. IfNone o (IsNoCommand words)) is none
