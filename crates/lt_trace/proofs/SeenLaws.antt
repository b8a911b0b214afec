-- What is kept of the transactions of some lines, and of one line more.
use Rattle.std.proofs.Common.{◌≡◌, ℕ, ◌+◌, List, [], ◌∷◌, ◌++◌, ◌||◌, ◌&&◌, Bool, true, false, cond, eqb, Some, None, unwrap_or, is_some, length, sym, ap, ◌∙◌, refl}
use Rattle.std.proofs.lemmas.Bool.{eqb-true}
use Rattle.std.proofs.lemmas.List.Folds.{list_any-append}
use Rattle.std.specs.Ordering.{nat_cmp}
use Rattle.std.specs.Cmp.{unsigned_tied}
use Rattle.std.specs.BTreeMap.{get, btree_map_len, is_at}
use Rattle.std.specs.declared.alloc.Global.{Global}
use Rattle.std.specs.declared.collections.btree_map.BTreeMap.{BTreeMap}
use Rattle.lt_trace.specs.declared.line.Line.{Line}
use Rattle.lt_trace.specs.Grammar.{has_begun, has_ended, is_last, txns_of}
use Rattle.lt_trace.specs.Seen.{seen_in, IsSeen}
use Rattle.lt_trace.proofs.TxnLaws.{txns_more}

-- a transaction without a line had no last one
begun_first : (txn : ℕ) (lines : List Line) → has_begun txn lines ≡ false → has_ended txn lines ≡ false
begun_first txn [] none = refl
begun_first txn (line ∷ lines) none = by_case (eqb line.txn txn) (is_last line.deed) none (begun_first txn lines)
  where
    by_case : (own last : Bool) → (own || has_begun txn lines) ≡ false → (has_begun txn lines ≡ false → has_ended txn lines ≡ false) → ((own && last) || has_ended txn lines) ≡ false
    by_case true last none rest = cc
    by_case false last none rest = rest none

pub seen_ended : (txn : ℕ) (lines : List Line) → unwrap_or (seen_in lines txn) false ≡ has_ended txn lines
seen_ended txn lines = by_case (has_begun txn lines) (begun_first txn lines)
  where
    by_case : (begun : Bool) → (begun ≡ false → has_ended txn lines ≡ false) → unwrap_or (cond begun (Some (has_ended txn lines)) None) false ≡ has_ended txn lines
    by_case true first = refl
    by_case false first = sym (first refl)

pub seen_begun : (txn : ℕ) (lines : List Line) → is_some (seen_in lines txn) ≡ has_begun txn lines
seen_begun txn lines = by_case (has_begun txn lines)
  where
    by_case : (begun : Bool) → is_some (cond begun (Some (has_ended txn lines)) None) ≡ begun
    by_case true = refl
    by_case false = refl

seen_push : (lines : List Line) (line : Line) (txn : ℕ) → seen_in (lines ++ line ∷ []) txn ≡ cond (eqb line.txn txn) (Some (has_ended line.txn lines || is_last line.deed)) (seen_in lines txn)
seen_push lines line txn =
    rw (list_any-append (λ (l : Line). eqb l.txn txn) lines (line ∷ []), list_any-append (λ (l : Line). eqb l.txn txn && is_last l.deed) lines (line ∷ []))
    (by_case (eqb line.txn txn) (has_begun txn lines) (has_ended txn lines) (is_last line.deed) (λ own. ap (λ t. has_ended t lines) (eqb-true line.txn txn own)))
  where
    or-false : (a : Bool) → (a || false) ≡ a
    or-false true = refl
    or-false false = refl

    with_line : (begun ended last : Bool) → has_ended line.txn lines ≡ ended → cond (begun || true) (Some (ended || (last || false))) None ≡ Some (has_ended line.txn lines || last)
    with_line true ended last same = rw (same, or-false last)
    with_line false ended last same = rw (same, or-false last)

    by_case : (own begun ended last : Bool) → (own ≡ true → has_ended line.txn lines ≡ ended) →
        cond (begun || (own || false)) (Some (ended || ((own && last) || false))) None ≡ cond own (Some (has_ended line.txn lines || last)) (cond begun (Some ended) None)
    by_case true begun ended last same = with_line begun ended last (same refl)
    by_case false true ended last same = ap Some (or-false ended)
    by_case false false ended last same = refl

-- the map has what it had, and the line's transaction
pub seen_more : (old new : BTreeMap ℕ Bool Global) (lines : List Line) (line : Line) (ended : Bool) → IsSeen old lines → ended ≡ (has_ended line.txn lines || is_last line.deed)
    → ((txn : ℕ) → get nat_cmp new txn ≡ cond (is_at (nat_cmp line.txn) txn) (Some ended) (get nat_cmp old txn))
    → btree_map_len new ≡ btree_map_len old + cond (is_some (get nat_cmp old line.txn)) 0 1 → IsSeen new (lines ++ line ∷ [])
seen_more old new lines line ended seen is updates len = record {
  each = λ txn. updates txn ∙ ap (λ b. cond b (Some ended) (get nat_cmp old txn)) (unsigned_tied line.txn txn) ∙ ap (λ o. cond (eqb line.txn txn) (Some ended) o) (seen.each txn)
      ∙ ap (λ b. cond (eqb line.txn txn) (Some b) (seen_in lines txn)) is ∙ sym (seen_push lines line txn);
  count = len ∙ ap (λ n. n + cond (is_some (get nat_cmp old line.txn)) 0 1) seen.count ∙ ap (λ b. length (txns_of lines) + cond b 0 1) (ap is_some (seen.each line.txn) ∙ seen_begun line.txn lines) ∙ sym (txns_more lines line);
}
