-- The trace that the generator makes of a seed: locks and tries of numbered keys, by some transactions in turn.
use Rattle.std.specs.Prelude.{ℕ, zero, suc, ◌+◌, ◌*◌, ◌/◌, ◌%◌, ◌^◌, List, [], ◌∷◌, ◌++◌, map, min, nat_lt, if◌then◌else◌}
use Rattle.std.specs.List.{range_with_len}
use Rattle.lt_ranges.specs.Interval.{Interval}
use Rattle.lt_ranges.specs.Short.{from_to}
use Rattle.lt_trace.specs.declared.line.Line.{Line}
use Rattle.lt_trace.specs.declared.line.LineDeed.{LineDeed}
use Rattle.lt_trace.specs.declared.line.LineDeed.TheVariants.{Try, Lock, End}
use Rattle.lt_trace.specs.Trace.{TraceView}

-- the state of 64 bits that follows
abbrev pub next_state : ℕ → ℕ
next_state x = (x * 6364136223846793005 + 1442695040888963407) % 2 ^ 64

-- the state behind so many steps
abbrev pub state_after : ℕ → ℕ → ℕ
state_after seed zero = seed
state_after seed (suc steps) = next_state (state_after seed steps)

-- the number that is drawn of a state: its high bits
abbrev pub drawn : ℕ → ℕ
drawn state = state / 2 ^ 33

-- so many decimal digits, with leading zeros
abbrev pub padded : ℕ → ℕ → List ℕ
padded zero n = []
padded (suc places) n = (48 + n / 10 ^ places) ∷ padded places (n % 10 ^ places)

-- from the key of one number to that of another, of five digits each
abbrev pub numbered : ℕ → ℕ → Interval
numbered left right = from_to (padded 5 left) (padded 5 right)

-- of eight draws five lock one key, two lock up to ten keys, and one tries one key
abbrev pub drawn_deed : ℕ → LineDeed
drawn_deed r =
    let tree = r / 8 % 2 in
    let key = r / 16 % 10000 in
    if nat_lt (r % 8) 5 then Lock tree (numbered key key)
    else if nat_lt (r % 8) 7 then Lock tree (numbered key (min (key + 9) 9999))
    else Try tree (numbered key key)

-- the drawn line of this index, from 0; the transactions take turns
abbrev pub drawn_line : ℕ → ℕ → ℕ → Line
drawn_line seed txns index =
    record { txn = 1 + index % txns; number = 5 + index; deed = drawn_deed (drawn (state_after seed (index + 1))) }

-- the line behind so many others by which a transaction ends
abbrev pub ending_line : ℕ → ℕ → Line
ending_line lines index = record { txn = 1 + index; number = 5 + lines + index; deed = End }

abbrev pub drawn_lines : ℕ → ℕ → ℕ → List Line
drawn_lines seed txns lines = map (drawn_line seed txns) (range_with_len 0 lines)

abbrev pub ending_lines : ℕ → ℕ → List Line
ending_lines txns lines = map (ending_line lines) (range_with_len 0 txns)

-- so many drawn lines, and then one line for each transaction, by which it ends
abbrev pub generated : ℕ → ℕ → ℕ → TraceView
generated seed txns lines =
    record { version = 1; trees = 2; limit = 4096; buffer = 512; lines = drawn_lines seed txns lines ++ ending_lines txns lines }
