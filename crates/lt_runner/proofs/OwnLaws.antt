-- A transaction's own lines, taken one after another.
use Rattle.std.proofs.Common.{◌≡◌, ℕ, ◌+◌, ◌<◌, List, [], ◌∷◌, ◌++◌, drop, Bool, true, false, ◌==◌, ◌||◌, if◌then◌else◌, length, get_or, refl, sym, ap, ◌∙◌, arith, append_assoc, append-nil}
use Rattle.std.proofs.lemmas.Bool.Decides.{nat_tests}
use Rattle.std.proofs.lemmas.List.{at_drop_more}
use Rattle.lt_trace.specs.declared.line.Line.{Line}
use Rattle.lt_trace.specs.Grammar.{is_last}
use Rattle.lt_runner.specs.TurnView.{Turn, Seat}
use Rattle.lt_runner.specs.Plays.{own_of, has_last}
use Rattle.lt_runner.specs.Seats.{with_line, with_lines}
use Rattle.lt_runner.proofs.ChoiceLaws.{on_true, on_false}

-- What is known on the way: so far its lines stand behind the others, and those to come go behind them.
pub record IsOnWay (txn : ℕ) (whole left : List Line) (old seat : Seat) (last : Bool) : Type 0 where
  pub lines : with_lines (own_of txn left) seat ≡ with_lines (own_of txn whole) old
  pub last_is : (last || has_last (own_of txn left)) ≡ has_last (own_of txn whole)
  pub own : seat.turn.txn ≡ txn

pub starts : (txn : ℕ) (whole : List Line) (old : Seat) → old.turn.txn ≡ txn → IsOnWay txn whole whole old old false
starts txn whole old own = record { lines = refl; last_is = refl; own = own }

own_first : (txn : ℕ) (line : Line) (rest : List Line) → (line.txn == txn) ≡ true → own_of txn (line ∷ rest) ≡ line ∷ own_of txn rest
own_first txn line rest is = on_true (line.txn == txn) (line ∷ own_of txn rest) (own_of txn rest) is

own_skips : (txn : ℕ) (line : Line) (rest : List Line) → (line.txn == txn) ≡ false → own_of txn (line ∷ rest) ≡ own_of txn rest
own_skips txn line rest is = on_false (line.txn == txn) (line ∷ own_of txn rest) (own_of txn rest) is

left_at : (txn : ℕ) (lines : List Line) (i : ℕ) (line : Line) → i < length lines → line ≡ get_or lines i line → own_of txn (drop i lines) ≡ own_of txn (line ∷ drop (i + 1) lines)
left_at txn lines i line inside is = at_drop_more (own_of txn) lines i line inside ∙ ap (λ (l : Line). own_of txn (l ∷ drop (i + 1) lines)) (sym is)

or_then : (a b c : Bool) → ((a || b) || c) ≡ (a || (b || c))
or_then true b c = refl
or_then false b c = refl

-- one of its own
pub takes_own : (txn : ℕ) (whole lines : List Line) (i : ℕ) (line : Line) (old seat : Seat) (last : Bool) → i < length lines → line ≡ get_or lines i line → line.txn ≡ seat.turn.txn →
    IsOnWay txn whole (drop i lines) old seat last → IsOnWay txn whole (drop (i + 1) lines) old (with_line line seat) (last || is_last line.deed)
takes_own txn whole lines i line old seat last inside is own way =
    let rest = own_of txn (drop (i + 1) lines) in
    let test : (line.txn == txn) ≡ true = let k = own ∙ way.own in grind (arith, nat_tests) in
    let left : own_of txn (drop i lines) ≡ line ∷ rest = left_at txn lines i line inside is ∙ own_first txn line (drop (i + 1) lines) test in
    record {
      lines = ap (λ (ls : List Line). record seat { turn = record seat.turn { lines = ls } }) (append_assoc seat.turn.lines (line ∷ []) rest)
          ∙ ap (λ (ls : List Line). with_lines ls seat) (sym left) ∙ way.lines;
      last_is = or_then last (is_last line.deed) (has_last rest) ∙ ap (λ (ls : List Line). last || has_last ls) (sym left) ∙ way.last_is;
      own = way.own;
    }

-- one of another
pub skips_other : (txn : ℕ) (whole lines : List Line) (i : ℕ) (line : Line) (old seat : Seat) (last : Bool) → i < length lines → line ≡ get_or lines i line → (line.txn == seat.turn.txn) ≡ false →
    IsOnWay txn whole (drop i lines) old seat last → IsOnWay txn whole (drop (i + 1) lines) old seat last
skips_other txn whole lines i line old seat last inside is other way =
    let test : (line.txn == txn) ≡ false = ap (λ (n : ℕ). line.txn == n) (sym way.own) ∙ other in
    let left : own_of txn (drop i lines) ≡ own_of txn (drop (i + 1) lines) = left_at txn lines i line inside is ∙ own_skips txn line (drop (i + 1) lines) test in
    record {
      lines = ap (λ (ls : List Line). with_lines ls seat) (sym left) ∙ way.lines;
      last_is = ap (λ (ls : List Line). last || has_last ls) (sym left) ∙ way.last_is;
      own = way.own;
    }

-- and none is left
pub all_taken : (txn : ℕ) (whole : List Line) (old seat : Seat) (last : Bool) → IsOnWay txn whole [] old seat last → seat ≡ with_lines (own_of txn whole) old
all_taken txn whole old seat last way = ap (λ (ls : List Line). record seat { turn = record seat.turn { lines = ls } }) (sym (append-nil seat.turn.lines)) ∙ way.lines

pub last_told : (txn : ℕ) (whole : List Line) (old seat : Seat) (last : Bool) → IsOnWay txn whole [] old seat last → last ≡ has_last (own_of txn whole)
last_told txn whole old seat last way = by_test last way.last_is
  where
    by_test : (b : Bool) → (b || false) ≡ has_last (own_of txn whole) → b ≡ has_last (own_of txn whole)
    by_test true e = e
    by_test false e = e
