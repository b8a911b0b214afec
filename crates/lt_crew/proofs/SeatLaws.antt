-- Seats that are given to workers and taken from them.
use Rattle.std.proofs.Common.{◌≡◌, ◌≢◌, ◌⊎◌, inl, inr, ℕ, ◌+◌, ◌-◌, ◌<◌, List, [], ◌∷◌, ◌++◌, length, get_or, sym, ap, subst, ◌∙◌, arith, length-append}
use Rattle.std.specs.Prelude.{Option, None, Some, option_to_list}
use Rattle.std.specs.List.{All}
use Rattle.std.proofs.lemmas.Bool.{cases_eq}
use Rattle.std.proofs.lemmas.List.{get_or_default, get_or_append_left}
use Rattle.std.proofs.Math.Seq.{get_or-append_seam}
use Rattle.lt_runner.specs.TurnView.{Seat}
use Rattle.lt_deal.specs.declared.deal.Deal.{Deal}
use Rattle.lt_deal.specs.declared.seat.DealSeat.{DealSeat}
use Rattle.lt_deal.specs.Fresh.{IsNewSeat}
use Rattle.lt_crew.specs.declared.worker.Worker.{Worker}
use Rattle.lt_crew.specs.Workers.{UpTo}
use Rattle.lt_crew.specs.DealRounds.{IsNewIn, KeepsPass}
use Rattle.lt_crew.proofs.DealtLaws.{element}

-- the last of them leaves
pub popped_len : (n : ℕ) (left rest : List (DealSeat Seat)) (o : Option (DealSeat Seat)) → n ≡ length left → 0 < length left →
    left ≡ rest ++ option_to_list o → ((d : DealSeat Seat) → 0 < n → o ≡ Some (get_or left (n - 1) d)) → length rest + 1 ≡ length left
popped_len n left rest None count low is value = (let e = value (element left 0 low) (omega arith) in cc)
popped_len n left rest (Some seat) count low is value = omega (arith, ap length is, length-append rest (seat ∷ []))

pub popped : (deal : Deal Seat) (stock : List Seat) (n : ℕ) (left rest : List (DealSeat Seat)) (o : Option (DealSeat Seat)) →
    n ≡ length left →
    0 < length left → left ≡ rest ++ option_to_list o → ((d : DealSeat Seat) → 0 < n → o ≡ Some (get_or left (n - 1) d)) →
    All (IsNewSeat deal.table.shared.table_id stock) left → All (IsNewSeat deal.table.shared.table_id stock) rest × IsNewIn deal stock o
popped deal stock n left rest None count low is value blank = (let e = value (element left 0 low) (omega arith) in cc)
popped deal stock n left rest (Some seat) count low is value blank =
    let wide = length-append rest (seat ∷ []) in
    let long = ap length is in
    let last : get_or left (length rest) seat ≡ seat =
    ap (λ (l : List (DealSeat Seat)). get_or l (length rest) seat) is ∙ get_or-append_seam rest seat [] seat in (
      λ k d inside. subst (IsNewSeat deal.table.shared.table_id stock)
          (ap (λ (l : List (DealSeat Seat)). get_or l k d) is ∙ get_or_append_left rest (seat ∷ []) d k inside) (blank k d (omega arith)),
      subst (IsNewSeat deal.table.shared.table_id stock) last (blank (length rest) seat (omega arith)),
    )

pub seats_more : {P : Type 0} (n : ℕ) (old cur : List (Worker P)) (seats now : List (DealSeat Seat)) (seat : DealSeat Seat) (was : Worker P) →
    length seats ≡ n → now ≡ seats ++ seat ∷ [] → n < length cur →
    ((k : ℕ) (d : Worker P) (e : DealSeat Seat) → k < n → (get_or old k d).seat ≡ Some (get_or seats k e)) → UpTo KeepsPass n old cur →
    (get_or cur n was).seat ≡ Some seat → (k : ℕ) (d : Worker P) (e : DealSeat Seat) → k < n + 1 →
    (get_or old k d).seat ≡ Some (get_or now k e)
seats_more {P = P} n old cur seats now seat was count is inside each upto here k d e low = by_place (cases_eq k n)
  where
    by_place : (k ≡ n) ⊎ (k ≢ n) → (get_or old k d).seat ≡ Some (get_or now k e)
    by_place (inl same) =
        ap (λ (i : ℕ). (get_or old i d).seat) same
        ∙ ap (λ (w : Worker P). w.seat) (sym (upto.rest n d (omega arith)) ∙ get_or_default cur n d was inside) ∙ here
        ∙ ap (λ (s : DealSeat Seat). Some s)
        (sym (ap (λ (i : ℕ). get_or now i e) (same ∙ sym count) ∙ ap (λ (l : List (DealSeat Seat)). get_or l (length seats) e) is
        ∙ get_or-append_seam seats seat [] e))
    by_place (inr differs) =
        each k d e (omega arith)
        ∙ ap (λ (s : DealSeat Seat). Some s)
        (sym (ap (λ (l : List (DealSeat Seat)). get_or l k e) is ∙ get_or_append_left seats (seat ∷ []) e k (omega arith)))
