-- What the generator makes is a trace.
use Rattle.std.proofs.Common.{◌≡◌, ℕ, zero, suc, ◌+◌, ◌*◌, ◌/◌, ◌%◌, ◌^◌, ◌<◌, ◌≤◌, List, [], ◌∷◌, ◌++◌, ◌||◌, ◌&&◌, Bool, true, false, not, cond, eqb, ltb, nat_le, nat_lt, map, min, length, Option, Some, None, codes, decimal, sym, ap, subst, ◌∙◌, refl, lit<, arith, append_assoc, length-append}
use Rattle.std.specs.List.{AllByRecursion, list_any, range_with_len}
use Rattle.std.specs.Option.{option_or}
use Rattle.std.proofs.lemmas.Bool.Decides.{nat_tests}
use Rattle.std.proofs.lemmas.Fmt.{length-decimal-le}
use Rattle.std.proofs.lemmas.List.{append-nil}
use Rattle.std.proofs.lemmas.List.Folds.{list_any-append}
use Rattle.std.proofs.lemmas.List.FromFn.{map-range_with_len_more}
use Rattle.lt_ranges.specs.declared.key.Key.TheVariants.{Bytes}
use Rattle.lt_ranges.specs.Key.{key_le}
use Rattle.lt_ranges.specs.KeyText.{spaced, key_text, range_text}
use Rattle.lt_ranges.proofs.KeyTextLaws.{length-key_text}
use Rattle.lt_trace.specs.declared.fault.TraceFault.{TraceFault}
use Rattle.lt_trace.specs.declared.fault.TraceFault.TheVariants as fault
use Rattle.lt_trace.specs.declared.line.Line.{Line}
use Rattle.lt_trace.specs.declared.line.LineDeed.{LineDeed}
use Rattle.lt_trace.specs.declared.line.LineDeed.TheVariants.{Try, Lock, End}
use Rattle.lt_trace.specs.Grammar.{deed_text, line_text, IsRangeForm, IsDeedForm, is_last, has_ended, has_begun, txns_of, fault_of_deed, fault_of_turn, IsFaultless, Front, IsFront, whole, IsTrace}
use Rattle.lt_trace.specs.Generator.{next_state, padded, numbered, drawn, drawn_deed, state_after, drawn_line, ending_line, drawn_lines, ending_lines, generated}
use Rattle.lt_trace.proofs.GrammarLaws.{front_more}
use Rattle.lt_trace.proofs.FaultLaws.{fine_text}
use Rattle.lt_trace.proofs.TxnLaws.{IsUpTo, all_more, has_room}
use Rattle.lt_trace.proofs.PaddedLaws.{keys_le, padded_bytes}

abbrev header : List ℕ
header = 1 ∷ 2 ∷ 4096 ∷ 512 ∷ []

-- One line more.

one_more : (n : ℕ) → n + 1 ≡ suc n
one_more n = omega arith

pub state_more : (seed steps : ℕ) → state_after seed (steps + 1) ≡ next_state (state_after seed steps)
state_more seed steps = ap (λ n. state_after seed n) (one_more steps)

pub more_drawn : (front : List Line) (seed txns index : ℕ) → front ++ drawn_lines seed txns (index + 1) ≡ (front ++ drawn_lines seed txns index) ++ drawn_line seed txns index ∷ []
more_drawn front seed txns index =
    ap (λ ls. front ++ ls) (map-range_with_len_more (drawn_line seed txns) 0 index index (omega arith)) ∙ sym (append_assoc front (drawn_lines seed txns index) (drawn_line seed txns index ∷ []))

abbrev line_of : ℕ → ℕ → LineDeed → Line
line_of turn number deed = record { txn = 1 + turn; number = number; deed = deed }

pub drawn_step : (front items more : List Line) (seed txns index state turn : ℕ) (deed : LineDeed) → items ≡ front ++ drawn_lines seed txns index → state ≡ state_after seed (index + 1)
    → turn ≡ index % txns → deed ≡ drawn_deed (drawn state) → more ≡ items ++ line_of turn (5 + index) deed ∷ [] → more ≡ front ++ drawn_lines seed txns (index + 1)
drawn_step front items more seed txns index state turn deed so_far is whose says pushed =
    pushed ∙ ap (λ d. items ++ line_of turn (5 + index) d ∷ []) (says ∙ ap (λ x. drawn_deed (drawn x)) is)
    ∙ ap (λ t. items ++ line_of t (5 + index) (drawn_deed (drawn (state_after seed (index + 1)))) ∷ []) whose
    ∙ ap (λ xs. xs ++ drawn_line seed txns index ∷ []) so_far ∙ sym (more_drawn front seed txns index)

pub more_ending : (front : List Line) (lines index : ℕ) → front ++ ending_lines (index + 1) lines ≡ (front ++ ending_lines index lines) ++ ending_line lines index ∷ []
more_ending front lines index =
    ap (λ ls. front ++ ls) (map-range_with_len_more (ending_line lines) 0 index index (omega arith)) ∙ sym (append_assoc front (ending_lines index lines) (ending_line lines index ∷ []))

pub ending_step : (front items more : List Line) (lines index turn : ℕ) → items ≡ front ++ ending_lines index lines → turn ≡ index
    → more ≡ items ++ line_of turn (5 + lines + index) End ∷ [] → more ≡ front ++ ending_lines (index + 1) lines
ending_step front items more lines index turn so_far whose pushed =
    pushed ∙ ap (λ t. items ++ line_of t (5 + lines + index) End ∷ []) whose
    ∙ ap (λ xs. xs ++ ending_line lines index ∷ []) so_far ∙ sym (more_ending front lines index)

-- A deed that the generator makes has no fault in a line of this number.

record IsFine (number : ℕ) (deed : LineDeed) : Type 0 where
  form : IsDeedForm 1 deed
  fault : fault_of_deed number 2 deed ≡ None
  short : length (deed_text deed) ≤ 590

fine_end : (number : ℕ) → IsFine number End
fine_end number = record { form = tt; fault = refl; short = omega arith }

-- the rows that go by a tree and two keys that fit find nothing
nothing_found : (number : ℕ) (outside ordered : Bool) → outside ≡ false → ordered ≡ true
    → cond outside (Some (fault.TreeOutOfRange number)) (cond (not ordered) (Some (fault.Backwards number)) None) ≡ None
nothing_found number outside ordered inside is = rw (inside, is) refl

inside : (tree : ℕ) → tree < 2 → nat_le 2 tree ≡ false
inside tree low = grind (arith, nat_tests)

range_form : (left right : ℕ) → left ≤ right → right < 10000 → IsRangeForm 1 (numbered left right)
range_form left right h low = ((tt, padded_bytes 5 left (omega arith)), (tt, padded_bytes 5 right (omega arith)))

-- a word, a digit and two keys, with spaces between them
spaced_length : (word digits left right : List ℕ) → length word ≤ 5 → length digits ≤ 1 → length left ≤ 255 → length right ≤ 255
    → length ((word ++ (32 ∷ digits)) ++ (32 ∷ ((left ++ (32 ∷ [])) ++ right))) ≤ 590
spaced_length word digits left right short one first second =
    let keys : length ((left ++ (32 ∷ [])) ++ right) ≤ 511 = omega (arith, length-append (left ++ (32 ∷ [])) right, length-append left (32 ∷ [])) in
    let ahead : length (word ++ (32 ∷ digits)) ≤ 7 = omega (arith, length-append word (32 ∷ digits)) in
    omega (arith, length-append (word ++ (32 ∷ digits)) (32 ∷ ((left ++ (32 ∷ [])) ++ right)))

asked_length : (word : List ℕ) (tree left right : ℕ) → length word ≤ 5 → tree < 2 → length (word ++ spaced tree ++ range_text (numbered left right)) ≤ 590
asked_length word tree left right short low =
    spaced_length word (decimal tree) (key_text (Bytes (padded 5 left))) (key_text (Bytes (padded 5 right))) short
    (length-decimal-le 1 tree (lit< tt) (omega arith) (omega arith)) (length-key_text (Bytes (padded 5 left)) refl) (length-key_text (Bytes (padded 5 right)) refl)

fine_lock : (number tree left right : ℕ) → tree < 2 → left ≤ right → right < 10000 → IsFine number (Lock tree (numbered left right))
fine_lock number tree left right low h below = record {
  form = (omega arith, range_form left right h below);
  fault = nothing_found number (nat_le 2 tree) (key_le (Bytes (padded 5 left)) (Bytes (padded 5 right))) (inside tree low) (keys_le left right h);
  short = asked_length (codes " lock") tree left right (omega arith) low;
}

fine_try : (number tree left right : ℕ) → tree < 2 → left ≤ right → right < 10000 → IsFine number (Try tree (numbered left right))
fine_try number tree left right low h below = record {
  form = (omega arith, range_form left right h below);
  fault = nothing_found number (nat_le 2 tree) (key_le (Bytes (padded 5 left)) (Bytes (padded 5 right))) (inside tree low) (keys_le left right h);
  short = asked_length (codes " try") tree left right (omega arith) low;
}

abbrev IsDrawn : ℕ → LineDeed → Type 0
IsDrawn number deed = IsFine number deed × (is_last deed ≡ false)

fine_drawn : (number r : ℕ) → IsDrawn number (drawn_deed r)
fine_drawn number r = by_kind (nat_lt (r % 8) 5) (nat_lt (r % 8) 7)
  where
    tree : r / 8 % 2 < 2
    tree = omega arith

    key : r / 16 % 10000 < 10000
    key = omega arith

    by_kind : (points ranges : Bool) → IsDrawn number
        (cond points (Lock (r / 8 % 2) (numbered (r / 16 % 10000) (r / 16 % 10000)))
        (cond ranges (Lock (r / 8 % 2) (numbered (r / 16 % 10000) (min (r / 16 % 10000 + 9) 9999))) (Try (r / 8 % 2) (numbered (r / 16 % 10000) (r / 16 % 10000)))))
    by_kind true ranges = (fine_lock number (r / 8 % 2) (r / 16 % 10000) (r / 16 % 10000) tree (omega arith) key, refl)
    by_kind false true = (fine_lock number (r / 8 % 2) (r / 16 % 10000) (min (r / 16 % 10000 + 9) 9999) tree (omega (arith, key)) (omega arith), refl)
    by_kind false false = (fine_try number (r / 8 % 2) (r / 16 % 10000) (r / 16 % 10000) tree (omega arith) key, refl)

-- The lines so far: so many, of transactions up to a number, of which those above the last that ended go on.

record IsGoing (txns count over : ℕ) (lines : List Line) : Type 0 where
  front : IsFront (record { header = header; lines = lines })
  number : length lines ≡ count
  turns : AllByRecursion (IsUpTo txns) lines
  live : (t : ℕ) → over < t → has_ended t lines ≡ false

-- a line that may come next
record IsNext (txns count over : ℕ) (line : Line) : Type 0 where
  number : line.number ≡ 5 + count
  up_to : IsUpTo txns line
  live : over < line.txn
  fine : IsFine (5 + count) line.deed

line_short : (line : Line) → line.txn < 10000 → length (deed_text line.deed) ≤ 590 → length (line_text line) ≤ 600
line_short line low short =
    let digits = length-decimal-le 4 line.txn (lit< tt) (omega arith) (omega arith) in
    omega (arith, length-append (decimal line.txn) (deed_text line.deed))

no_turn_fault : (number txn : ℕ) (before : List Line) → has_ended txn before ≡ false → (not (has_begun txn before) && nat_le 1024 (length (txns_of before))) ≡ false
    → fault_of_turn number before txn ≡ None
no_turn_fault number txn before live room =
    by_test (has_ended txn before) (not (has_begun txn before) && nat_le 1024 (length (txns_of before))) live room
  where
    by_test : (ended many : Bool) → ended ≡ false → many ≡ false → cond ended (Some (fault.AfterEnd number)) (cond many (Some (fault.TooManyTxns number)) None) ≡ None
    by_test ended many going few = rw (going, few) refl

faultless : (txns count over : ℕ) (before : List Line) (line : Line) → txns ≤ 1024 → count ≤ 65535 → IsGoing txns count over before → IsNext txns count over line → IsFaultless header before line
faultless txns count over before line few low going next =
    let fine = next.fine in
    let from = next.up_to.0 in
    let up_to = next.up_to.1 in
    let number = next.number in
    let number_of = going.number in
    record {
      form = record { least = from; most = omega arith; deed = fine.form };
      number = omega arith;
      text = fine_text line.number (line_text line) (omega arith) (line_short line (omega arith) fine.short);
      says =
          ap (λ o. option_or o (fault_of_turn line.number before line.txn)) (subst (λ n. fault_of_deed n 2 line.deed ≡ None) (sym number) fine.fault)
          ∙ no_turn_fault line.number line.txn before (going.live line.txn next.live) (has_room txns before line few going.turns next.up_to);
    }

-- a transaction that goes on behind the line
still_live : (t : ℕ) (before : List Line) (line : Line) → has_ended t before ≡ false → (eqb line.txn t && is_last line.deed) ≡ false → has_ended t (before ++ line ∷ []) ≡ false
still_live t before line live one =
    list_any-append (λ (l : Line). eqb l.txn t && is_last l.deed) before (line ∷ []) ∙ by_test (has_ended t before) (eqb line.txn t && is_last line.deed) live one
  where
    by_test : (was is : Bool) → was ≡ false → is ≡ false → (was || (is || false)) ≡ false
    by_test was is before now = rw (before, now) refl

going_on : (txns count over later : ℕ) (before : List Line) (line : Line) → txns ≤ 1024 → count ≤ 65535 → over ≤ later → IsGoing txns count over before → IsNext txns count over line
    → ((t : ℕ) → later < t → (eqb line.txn t && is_last line.deed) ≡ false) → IsGoing txns (count + 1) later (before ++ line ∷ [])
going_on txns count over later before line few low rises going next ends =
    let number_of = going.number in
    record {
      front = front_more (record { header = header; lines = before }) line refl going.front (faultless txns count over before line few low going next);
      number = omega (arith, length-append before (line ∷ []));
      turns = all_more (IsUpTo txns) before line going.turns next.up_to;
      live = λ t above. still_live t before line (going.live t (omega arith)) (ends t above);
    }

-- The drawn lines.

no_lines : (txns : ℕ) → IsGoing txns 0 0 []
no_lines txns = record {
  front = record { header = (omega arith, omega arith, (omega arith, omega arith, (omega arith, omega arith, (omega arith, omega arith, tt)))); body = tt };
  number = refl;
  turns = tt;
  live = λ t above. refl;
}

turn : (txns index : ℕ) → 1 ≤ txns → (1 ≤ 1 + index % txns) × (1 + index % txns ≤ txns)
turn txns index some = (omega arith, omega arith)

and_false : (a b : Bool) → b ≡ false → (a && b) ≡ false
and_false true b h = h
and_false false b h = refl

drawn_next : (seed txns index : ℕ) → 1 ≤ txns → IsNext txns index 0 (drawn_line seed txns index)
drawn_next seed txns index some = record {
  number = refl;
  up_to = turn txns index some;
  live = omega arith;
  fine = (fine_drawn (5 + index) (drawn (state_after seed (index + 1)))).0;
}

drawn_going : (seed txns lines : ℕ) → 1 ≤ txns → txns ≤ 1024 → lines ≤ 64512 → IsGoing txns lines 0 (drawn_lines seed txns lines)
drawn_going seed txns zero some few low = no_lines txns
drawn_going seed txns (suc lines) some few low =
    let before = drawn_going seed txns lines some few (omega arith) in
    let line = drawn_line seed txns lines in
    let deed = fine_drawn (5 + lines) (drawn (state_after seed (lines + 1))) in
    let more = going_on txns lines 0 0 (drawn_lines seed txns lines) line few (omega arith) (omega arith) before (drawn_next seed txns lines some)
    (λ t above. and_false (eqb line.txn t) (is_last line.deed) deed.1) in
    let step = subst (λ ls. IsGoing txns (lines + 1) 0 ls) (sym (map-range_with_len_more (drawn_line seed txns) 0 lines lines (omega arith))) more in
    subst (λ n. IsGoing txns n 0 (drawn_lines seed txns n)) (one_more lines) step

-- And those behind them.

ending_next : (txns lines index : ℕ) → index < txns → IsNext txns (lines + index) index (ending_line lines index)
ending_next txns lines index low = record {
  number = omega arith;
  up_to = (omega arith, omega arith);
  live = omega arith;
  fine = fine_end (5 + (lines + index));
}

other_txn : (index t : ℕ) (last : Bool) → index + 1 < t → (eqb (1 + index) t && last) ≡ false
other_txn index t last above =
    by_test (eqb (1 + index) t) (grind (arith, nat_tests))
  where
    by_test : (same : Bool) → same ≡ false → (same && last) ≡ false
    by_test same other = rw other refl

ending_going : (seed txns lines index : ℕ) → 1 ≤ txns → txns ≤ 1024 → lines ≤ 64512 → index ≤ txns → IsGoing txns (lines + index) index (drawn_lines seed txns lines ++ ending_lines index lines)
ending_going seed txns lines zero some few low within =
    subst (λ ls. IsGoing txns (lines + 0) 0 ls) (sym (append-nil (drawn_lines seed txns lines)))
    (subst (λ n. IsGoing txns n 0 (drawn_lines seed txns lines)) (sym (same lines)) (drawn_going seed txns lines some few low))
  where
    same : (n : ℕ) → n + 0 ≡ n
    same n = omega arith
ending_going seed txns lines (suc index) some few low within =
    let before = ending_going seed txns lines index some few low (omega arith) in
    let line = ending_line lines index in
    let more = going_on txns (lines + index) index (index + 1) (drawn_lines seed txns lines ++ ending_lines index lines) line few (omega arith) (omega arith) before
    (ending_next txns lines index (omega arith)) (λ t above. other_txn index t true above) in
    let step = subst (λ ls. IsGoing txns (lines + index + 1) (index + 1) ls) (sym (more_ending (drawn_lines seed txns lines) lines index)) more in
    let count : lines + index + 1 ≡ lines + (index + 1) = omega arith in
    let counted = subst (λ n. IsGoing txns n (index + 1) (drawn_lines seed txns lines ++ ending_lines (index + 1) lines)) count step in
    subst (λ n. IsGoing txns (lines + n) n (drawn_lines seed txns lines ++ ending_lines n lines)) (one_more index) counted

pub generated_is_trace : (seed txns lines : ℕ) → 1 ≤ txns → txns ≤ 1024 → lines ≤ 64512 → IsTrace (generated seed txns lines)
generated_is_trace seed txns lines some few low = (ending_going seed txns lines txns some few low (omega arith)).front
