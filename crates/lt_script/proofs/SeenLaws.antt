-- What is kept of the transactions of some moves, and of one move more: the same as of lines of those transactions.
use Rattle.std.proofs.Common.{◌≡◌, ℕ, ◌+◌, List, [], ◌∷◌, ◌++◌, ◌||◌, ◌&&◌, Bool, true, false, cond, eqb, Some, None, unwrap_or, is_some, map, length, sym, ap, subst, ◌∙◌, refl}
use Rattle.std.proofs.lemmas.List.{map_push}
use Rattle.std.specs.Ordering.{nat_cmp}
use Rattle.std.specs.BTreeMap.{get, btree_map_len, is_at}
use Rattle.std.specs.declared.alloc.Global.{Global}
use Rattle.std.specs.declared.collections.btree_map.BTreeMap.{BTreeMap}
use Rattle.lt_ranges.specs.Numbers.{ascending}
use Rattle.lt_trace.specs.declared.line.Line.{Line}
use Rattle.lt_trace.specs.declared.line.LineDeed.TheVariants.{End, Big}
use Rattle.lt_trace.specs.Grammar.{has_begun as has_begun_line, has_ended as has_ended_line, is_last as is_last_line, txns_of as txns_of_lines}
use Rattle.lt_trace.specs.Seen.{seen_in as seen_in_lines, IsSeen as AreSeen}
use Rattle.lt_trace.proofs.SeenLaws.{seen_ended as seen_ended_line, seen_begun as seen_begun_line, seen_more as seen_more_lines}
use Rattle.lt_store.specs.declared.op.Move.{Move}
use Rattle.lt_script.specs.Moves.{has_begun, has_ended, is_last, txns_of}
use Rattle.lt_script.specs.Seen.{seen_in, IsSeen}

-- a line of the same transaction that is a last one where the move is
abbrev line_of : Move → Line
line_of m = record { txn = m.txn; number = 0; deed = cond (is_last m.op) End Big }

last_same : (last : Bool) → is_last_line (cond last End Big) ≡ last
last_same true = refl
last_same false = refl

begun_same : (txn : ℕ) (moves : List Move) → has_begun_line txn (map line_of moves) ≡ has_begun txn moves
begun_same txn [] = refl
begun_same txn (m ∷ moves) = ap (λ b. eqb m.txn txn || b) (begun_same txn moves)

ended_same : (txn : ℕ) (moves : List Move) → has_ended_line txn (map line_of moves) ≡ has_ended txn moves
ended_same txn [] = refl
ended_same txn (m ∷ moves) =
    ap (λ b. (eqb m.txn txn && b) || has_ended_line txn (map line_of moves)) (last_same (is_last m.op))
    ∙ ap (λ b. (eqb m.txn txn && is_last m.op) || b) (ended_same txn moves)

numbers_same : (moves : List Move) → map (λ (l : Line). l.txn) (map line_of moves) ≡ map (λ (m : Move). m.txn) moves
numbers_same [] = refl
numbers_same (m ∷ moves) = ap (λ ns. m.txn ∷ ns) (numbers_same moves)

txns_same : (moves : List Move) → txns_of_lines (map line_of moves) ≡ txns_of moves
txns_same moves = ap ascending (numbers_same moves)

seen_same : (txn : ℕ) (moves : List Move) → seen_in_lines (map line_of moves) txn ≡ seen_in moves txn
seen_same txn moves =
    ap (λ b. cond b (Some (has_ended_line txn (map line_of moves))) None) (begun_same txn moves)
    ∙ ap (λ b. cond (has_begun txn moves) (Some b) None) (ended_same txn moves)

pub seen_ended : (txn : ℕ) (moves : List Move) → unwrap_or (seen_in moves txn) false ≡ has_ended txn moves
seen_ended txn moves =
    ap (λ o. unwrap_or o false) (sym (seen_same txn moves)) ∙ seen_ended_line txn (map line_of moves) ∙ ended_same txn moves

pub seen_begun : (txn : ℕ) (moves : List Move) → is_some (seen_in moves txn) ≡ has_begun txn moves
seen_begun txn moves = ap is_some (sym (seen_same txn moves)) ∙ seen_begun_line txn (map line_of moves) ∙ begun_same txn moves

to_lines : (ended : BTreeMap ℕ Bool Global) (moves : List Move) → IsSeen ended moves → AreSeen ended (map line_of moves)
to_lines ended moves seen = record {
  each = λ txn. seen.each txn ∙ sym (seen_same txn moves);
  count = seen.count ∙ ap (length {A = ℕ}) (sym (txns_same moves));
}

of_lines : (ended : BTreeMap ℕ Bool Global) (moves : List Move) → AreSeen ended (map line_of moves) → IsSeen ended moves
of_lines ended moves seen = record {
  each = λ txn. seen.each txn ∙ seen_same txn moves;
  count = seen.count ∙ ap (length {A = ℕ}) (txns_same moves);
}

-- the map has what it had, and the move's transaction
pub seen_more : (old new : BTreeMap ℕ Bool Global) (moves : List Move) (m : Move) (ended : Bool) → IsSeen old moves
    → ended ≡ (has_ended m.txn moves || is_last m.op)
    → ((txn : ℕ) → get nat_cmp new txn ≡ cond (is_at (nat_cmp m.txn) txn) (Some ended) (get nat_cmp old txn))
    → btree_map_len new ≡ btree_map_len old + cond (is_some (get nat_cmp old m.txn)) 0 1 → IsSeen new (moves ++ m ∷ [])
seen_more old new moves m ended seen is updates len =
    let says : ended ≡ (has_ended_line m.txn (map line_of moves) || is_last_line (cond (is_last m.op) End Big)) =
    is ∙ ap (λ b. b || is_last m.op) (sym (ended_same m.txn moves))
    ∙ ap (λ b. has_ended_line m.txn (map line_of moves) || b) (sym (last_same (is_last m.op))) in
    let more = seen_more_lines old new (map line_of moves) (line_of m) ended (to_lines old moves seen) says updates len in
    of_lines new (moves ++ m ∷ []) (subst (λ lines. AreSeen new lines) (sym (map_push line_of moves m)) more)
