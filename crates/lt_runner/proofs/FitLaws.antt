-- The lines of a trace may be played.
use Rattle.std.proofs.Common.{◌≡◌, ℕ, List, [], ◌∷◌, ◌++◌, map, Bool, true, false, ◌==◌, ◌||◌, not, Option, Some, None, nat_lt, if◌then◌else◌, refl, sym, ◌∙◌, arith, eq-eqb}
use Rattle.std.specs.List.{AllByRecursion, fold}
use Rattle.std.specs.Option.{option_or}
use Rattle.std.proofs.lemmas.Bool.Decides.{nat_tests}
use Rattle.lt_ranges.specs.Numbers.{is_in, with_number}
use Rattle.lt_seq.specs.Table.{Setting}
use Rattle.lt_trace.specs.declared.line.Line.{Line}
use Rattle.lt_trace.specs.declared.line.LineDeed.{LineDeed}
use Rattle.lt_trace.specs.declared.line.LineDeed.TheVariants.{Try, Lock, End, Abort, Escalate, Big}
use Rattle.lt_trace.specs.declared.fault.TraceFault.{TraceFault}
use Rattle.lt_trace.specs.declared.fault.TraceFault.TheVariants as fault
use Rattle.lt_trace.specs.Trace.{TraceView}
use Rattle.lt_trace.specs.Grammar.{txns_of, IsTrace, IsBody, AreFaultless, is_outside, has_long_key, is_backwards, fault_of_deed, fault_of_turn}
use Rattle.lt_runner.specs.Serial.{setting_of}
use Rattle.lt_runner.specs.Steps.{IsFitDeed, IsFit}

-- Each line is of one of the transactions.

in_with : (n : ℕ) (ns : List ℕ) → is_in n (with_number n ns) ≡ true
in_with n [] = by_test (n == n) (eq-eqb n n refl)
  where
    by_test : (b : Bool) → b ≡ true → (b || false) ≡ true
    by_test true e = refl
    by_test false e = cc
in_with n (m ∷ ms) = by_tests (nat_lt n m) (n == m) refl (in_with n ms)
  where
    same : (b c : Bool) → b ≡ true → (b || c) ≡ true
    same true c e = refl
    same false c e = cc

    later : (b c : Bool) → c ≡ true → (b || c) ≡ true
    later true c e = refl
    later false c e = e

    by_tests : (a b : Bool) → (n == m) ≡ b → is_in n (with_number n ms) ≡ true → is_in n (if a then n ∷ m ∷ ms else if b then m ∷ ms else m ∷ with_number n ms) ≡ true
    by_tests true b e rest = same (n == n) _ (eq-eqb n n refl)
    by_tests false true e rest = same (m == n) _ (eq-eqb m n (let is : n ≡ m = grind (arith, nat_tests) in sym is))
    by_tests false false e rest = later (m == n) _ rest

in_with_more : (m n : ℕ) (ns : List ℕ) → is_in m ns ≡ true → is_in m (with_number n ns) ≡ true
in_with_more m n [] there = cc
in_with_more m n (k ∷ ks) there =
    spread (nat_lt n k) (n == k) ∙ by_tests (nat_lt n k) (n == k) (k == m) there (in_with_more m n ks)
  where
    spread : (a b : Bool) → is_in m (if a then n ∷ k ∷ ks else if b then k ∷ ks else k ∷ with_number n ks)
        ≡ (if a then (n == m || (k == m || is_in m ks)) else if b then (k == m || is_in m ks) else (k == m || is_in m (with_number n ks)))
    spread true b = refl
    spread false true = refl
    spread false false = refl

    or_later : (a b : Bool) → b ≡ true → (a || b) ≡ true
    or_later true b e = refl
    or_later false b e = e

    by_tests : (a b c : Bool) → (c || is_in m ks) ≡ true → (is_in m ks ≡ true → is_in m (with_number n ks) ≡ true) →
        (if a then (n == m || (c || is_in m ks)) else if b then (c || is_in m ks) else (c || is_in m (with_number n ks))) ≡ true
    by_tests true b c h later = or_later (n == m) (c || is_in m ks) h
    by_tests false true c h later = h
    by_tests false false true h later = refl
    by_tests false false false h later = later h

in_fold_old : (m : ℕ) (old ns : List ℕ) → is_in m old ≡ true → is_in m (fold (λ list n. with_number n list) old ns) ≡ true
in_fold_old m old [] there = there
in_fold_old m old (n ∷ ns) there = in_fold_old m (with_number n old) ns (in_with_more m n old there)

in_fold : (old : List ℕ) (lines : List Line) → AllByRecursion (λ l. is_in l.txn (fold (λ list n. with_number n list) old (map (λ line. line.txn) lines)) ≡ true) lines
in_fold old [] = tt
in_fold old (line ∷ lines) = (in_fold_old line.txn (with_number line.txn old) (map (λ l. l.txn) lines) (in_with line.txn old), in_fold (with_number line.txn old) lines)

pub all_of : (lines : List Line) → AllByRecursion (λ l. is_in l.txn (txns_of lines) ≡ true) lines
all_of lines = in_fold [] lines

-- Its tree is there, and its range is one.

not_first : (b : Bool) (f : TraceFault) (rest : Option TraceFault) → (if b then Some f else rest) ≡ None → b ≡ false
not_first true f rest e = cc
not_first false f rest e = refl

none_first : (a b : Option TraceFault) → option_or a b ≡ None → a ≡ None
none_first None b e = refl
none_first (Some f) b e = cc

not_second : (b : Bool) (f : TraceFault) (rest : Option TraceFault) → (if b then Some f else rest) ≡ None → rest ≡ None
not_second true f rest e = cc
not_second false f rest e = e

not_not : (b : Bool) → not b ≡ false → b ≡ true
not_not true e = refl
not_not false e = cc

fit_deed : (setting : Setting) (deed : LineDeed) → is_outside setting.plan.trees deed ≡ false → is_backwards deed ≡ false → IsFitDeed setting deed
fit_deed setting (Try tree range) inside one = (grind (arith, nat_tests), not_not _ one)
fit_deed setting (Lock tree range) inside one = (grind (arith, nat_tests), not_not _ one)
fit_deed setting End inside one = tt
fit_deed setting Abort inside one = tt
fit_deed setting (Escalate tree) inside one = grind (arith, nat_tests)
fit_deed setting Big inside one = tt

fit_after : (trace : TraceView) (first : ℕ) (before lines : List Line) → AreFaultless (trace.version ∷ trace.trees ∷ trace.limit ∷ trace.buffer ∷ []) before lines →
    AllByRecursion (λ l. IsFitDeed (setting_of trace 1 first) l.deed) lines
fit_after trace first before [] all = tt
fit_after trace first before (line ∷ lines) all =
    let none = none_first (fault_of_deed line.number trace.trees line.deed) (fault_of_turn line.number before line.txn) all.0.says in (
      fit_deed (setting_of trace 1 first) line.deed (not_first (is_outside trace.trees line.deed) (fault.TreeOutOfRange line.number) _ none)
          (not_first (is_backwards line.deed) (fault.Backwards line.number) None
          (not_second (has_long_key line.deed) (fault.KeyTooLong line.number) _ (not_second (is_outside trace.trees line.deed) (fault.TreeOutOfRange line.number) _ none))),
      fit_after trace first (before ++ line ∷ []) lines all.1,
    )

fit_body : (trace : TraceView) (first : ℕ) (lines : List Line) → IsBody (trace.version ∷ trace.trees ∷ trace.limit ∷ trace.buffer ∷ []) lines →
    AllByRecursion (λ l. IsFitDeed (setting_of trace 1 first) l.deed) lines
fit_body trace first [] body = tt
fit_body trace first (line ∷ lines) body = fit_after trace first [] (line ∷ lines) body.1

both_fit : (setting : Setting) (txns : List ℕ) (lines : List Line) → AllByRecursion (λ l. is_in l.txn txns ≡ true) lines →
    AllByRecursion (λ l. IsFitDeed setting l.deed) lines → AllByRecursion (IsFit setting txns) lines
both_fit setting txns [] there deeds = tt
both_fit setting txns (line ∷ lines) there deeds = (record { number = there.0; deed = deeds.0 }, both_fit setting txns lines there.1 deeds.1)

-- each line of a trace fits
pub fit_of_trace : (trace : TraceView) (first : ℕ) → IsTrace trace → AllByRecursion (IsFit (setting_of trace 1 first) (txns_of trace.lines)) trace.lines
fit_of_trace trace first is_trace = both_fit (setting_of trace 1 first) (txns_of trace.lines) trace.lines (all_of trace.lines) (fit_body trace first trace.lines is_trace.body)
