use Rattle.lt_trace.proofs.key_words.read_ends.Goals as goal

pub returns : goal.returns
returns c =
    let left = c.in_ok-left-2.ensures in
    let right = c.in_ok-right.ensures in
    (record { left = left.0; right = right.0 }, (left.1, right.1), cc (c.in_ok-left.ensures.found, left.2, right.2), c.ends_of.ensures (record { left = left.0; right = right.0 }) left.3 right.3)
