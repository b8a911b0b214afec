-- The edges to one holder, where edges stand by ascending holder.
use Rattle.std.proofs.Common.{◌≡◌, ℕ, ◌+◌, ◌-◌, ◌≤◌, ◌<◌, List, length, get_or, take, drop, ltb, leb, true, false, Contains, sym, ap, subst, ◌∙◌, arith, get_or-take, get_or-drop, length-take-le, length-drop, ◌⊎◌, inl, inr}
use Rattle.std.specs.List.Sorted.{IsPartitionPoint}
use Rattle.std.proofs.lemmas.Bool.{cases_lt, ltb-true, ltb-false, leb-true, leb-false}
use Rattle.std.proofs.lemmas.List.Elements.{Contains-get_or}
use Rattle.lt_waits.specs.declared.wait.Wait.{Wait}
use Rattle.lt_waits.specs.Walks.{IsEdge}
use Rattle.lt_waits.specs.Steps.{HasEdgesTo}

-- an element of the part is one of the whole
from_at : (edges : List Wait) (start : ℕ) (from : List Wait) → from ≡ drop start edges → (k : ℕ) (d : Wait) → get_or from k d ≡ get_or edges (start + k) d
from_at edges start from is k d = ap (λ l. get_or l k d) is ∙ get_or-drop start edges k d

part_at : (edges : List Wait) (start end : ℕ) (from : List Wait) → from ≡ drop start edges → (k : ℕ) (d : Wait) → k < end → get_or (take end from) k d ≡ get_or edges (start + k) d
part_at edges start end from is k d h = get_or-take end from k d h ∙ from_at edges start from is k d

pub edges_part : (edges : List Wait) (holder start end : ℕ) (from : List Wait) → from ≡ drop start edges → IsPartitionPoint (λ w. ltb w.holder holder ≡ true) (λ w. ltb w.holder holder ≡ false) edges start → IsPartitionPoint (λ w. leb w.holder holder ≡ true) (λ w. leb w.holder holder ≡ false) from end → start ≤ length edges → end ≤ length from → HasEdgesTo edges holder (take end from)
edges_part edges holder start end from is lower upper start_in end_in =
    let len : length from ≡ length edges - start = ap length is ∙ length-drop start edges in
    let part_len : length (take end from) ≡ end = length-take-le end from end_in in
    record {
      only = λ k d below.
          let k_in : k < end = omega (arith, part_len, below) in
          let e = part_at edges start end from is k d k_in in
          let in_whole : start + k < length edges = omega (arith, len, k_in, end_in, start_in) in
          let most : (get_or edges (start + k) d).holder ≤ holder = leb-true _ _ (subst (λ (w : Wait). leb w.holder holder ≡ true) (from_at edges start from is k d) (upper.0 k d (omega arith) k_in)) in
          let least : holder ≤ (get_or edges (start + k) d).holder = ltb-false _ _ (lower.1 (start + k) d (omega arith) in_whole) in
          (ap (λ (w : Wait). w.holder) e ∙ (omega (arith, most, least)), subst (λ w. Contains edges w) (sym e) (Contains-get_or edges (start + k) d in_whole));
      every = λ waiter edge. every_at len part_len waiter edge.0 edge.1 edge.2 (cases_lt edge.0 start);
    }
  where
    same_holder : (waiter k : ℕ) → get_or edges k (record { waiter = waiter; holder = holder }) ≡ record { waiter = waiter; holder = holder } → (get_or edges k (record { waiter = waiter; holder = holder })).holder ≡ holder
    same_holder waiter k at = ap (λ (w : Wait). w.holder) at

    every_at : length from ≡ length edges - start → length (take end from) ≡ end → (waiter k : ℕ) → k < length edges → get_or edges k (record { waiter = waiter; holder = holder }) ≡ record { waiter = waiter; holder = holder } → (k < start) ⊎ (start ≤ k) → IsEdge (take end from) waiter holder
    every_at len part_len waiter k k_in at (inl before) =
        let less : (get_or edges k (record { waiter = waiter; holder = holder })).holder < holder = ltb-true _ _ (lower.0 k (record { waiter = waiter; holder = holder }) (omega arith) before) in
        absurd (omega (arith, less, same_holder waiter k at))
    every_at len part_len waiter k k_in at (inr above) =
        let e : Wait = record { waiter = waiter; holder = holder } in
        let j : ℕ = k - start in
        let back : start + j ≡ k = omega arith in
        let there : get_or from j e ≡ e = from_at edges start from is j e ∙ subst (λ n. get_or edges n e ≡ e) (sym back) at in
        let j_in : j < length from = omega (arith, len, above, k_in) in
        elim (cases_lt j end) [
          | inl inside ↦ (j, omega (arith, part_len, inside), get_or-take end from j e inside ∙ there)
          | inr outside ↦
              (let more : holder < (get_or from j e).holder = leb-false _ _ (upper.1 j e outside j_in) in
              absurd (omega (arith, more, ap (λ (w : Wait). w.holder) there)))
        ]
