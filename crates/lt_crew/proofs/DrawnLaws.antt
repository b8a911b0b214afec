-- A pass that plays what its seat draws, one after another.
use Rattle.std.proofs.Common.{◌≡◌, ◌≢◌, ◌⊎◌, inl, inr, ℕ, zero, suc, ◌+◌, ◌<◌, ◌≤◌, List, [], ◌∷◌, ◌++◌, Bool, true, false, ◌==◌, ◌||◌, IsTrue, length, get_or, refl, sym, ap, subst, ◌∙◌, arith, append-nil, length-append}
use mathlib.Core.Option.{some, some-injective, some-ne-none}
use lib.ListN.{get_elem?}
use Rattle.std.specs.List.{All, AllByRecursion}
use Rattle.std.proofs.lemmas.Bool.{cases_eq, cases_lt, false≢true}
use Rattle.std.proofs.lemmas.List.{get_or-map, length-map, get_or_append_left}
use Rattle.std.proofs.lemmas.List.Elements.{All-append}
use Rattle.std.proofs.Math.Seq.{get_or-append_seam, set-append_seam}
use Rattle.lt_ranges.specs.Numbers.{is_in}
use Rattle.lt_seq.specs.declared.event.Receipt.{Receipt}
use Rattle.lt_seq.specs.Table.{Setting}
use Rattle.lt_seq.specs.Yard.{PassView, IsSound}
use Rattle.lt_runner.specs.TurnView.{Seat}
use Rattle.lt_runner.specs.Played.{HasCome}
use Rattle.lt_runner.specs.PlaysOn.{PlaysOn, Brings, IsFit}
use Rattle.lt_runner.specs.Work.{work, Spends}
use Rattle.lt_runner.proofs.ComeLaws.{come_on}
use Rattle.lt_deal.specs.declared.view.View.{View}
use Rattle.lt_deal.specs.Rule.{times, Gave}
use Rattle.lt_deal.proofs.Lists.{times_append, weight_same, weight_else, at_len}
use Rattle.lt_deal.proofs.Closes.{map_both}
use Rattle.lt_crew.specs.Crew.{own_in, numbers_in, AreDistinct, AreDealt, PlaysAll, SpendsAll, work_all, IsPlayedOut}
use Rattle.lt_crew.specs.Workers.{EachPair}
use Rattle.lt_runner.proofs.NoteLaws.{keeps_notes_itself, keeps_notes_then}
use Rattle.lt_crew.specs.Drawing.{nobody, drawn, given, indexes_of, PlaysOut, IsDrawn, DrewOne}
use Rattle.lt_crew.proofs.OwnLaws.{eq_of, own_out, dealt_wider}
use Rattle.lt_crew.proofs.PlaysAllLaws.{plays_none, plays_more}
use Rattle.lt_crew.proofs.TimesLaws.{all_append, all_at, times_here, once_same}

-- What was drawn.

pub elem_get : {X : Type 0} (l : List X) (k : ℕ) (x d : X) → get_elem? l k ≡ some x → get_or l k d ≡ x
elem_get [] k x d at = absurd (some-ne-none x (sym at))
elem_get (y ∷ l) zero x d at = some-injective y x at
elem_get (y ∷ l) (suc k) x d at = elem_get l k x d at

pub elem_all : (P : Seat → Type 0) (l : List Seat) (k : ℕ) (x : Seat) → All P l → get_elem? l k ≡ some x → P x
elem_all P l k x all at = subst P (elem_get l k x x at) (all k x (at_len l k x at))

pub drawn_at : (stock : List Seat) (ds : List ℕ) (j : ℕ) (e : Seat) → j < length ds → get_or (drawn stock ds) j e ≡ get_or stock (get_or ds j 0) nobody
drawn_at stock ds j e inside = get_or-map (λ (k : ℕ). get_or stock k nobody) ds j 0 e inside

pub drawn_len : (stock : List Seat) (ds : List ℕ) → length (drawn stock ds) ≡ length ds
drawn_len stock ds = length-map ds (λ (k : ℕ). get_or stock k nobody)

-- no two have one number
pub drawn_distinct : (stock : List Seat) (ds : List ℕ) → AreDistinct stock → AllByRecursion (λ k. k < length stock) ds → ((k : ℕ) → times k ds ≤ 1) →
    AreDistinct (drawn stock ds)
drawn_distinct stock ds distinct inside once i j e in_i in_j same =
    let wide = drawn_len stock ds in
    let low_i : i < length ds = omega (arith, wide, in_i) in
    let low_j : j < length ds = omega (arith, wide, in_j) in
    once_same ds once i j 0 low_i low_j
    (distinct (get_or ds i 0) (get_or ds j 0) nobody (all_at (λ k. k < length stock) ds inside i 0 low_i)
    (all_at (λ k. k < length stock) ds inside j 0 low_j)
    (ap (λ (s : Seat). s.turn.txn) (sym (drawn_at stock ds i e low_i)) ∙ same ∙ ap (λ (s : Seat). s.turn.txn) (drawn_at stock ds j e low_j)))

-- where one of them was drawn
pub in_drawn : (stock : List Seat) (ds : List ℕ) (txn : ℕ) → IsTrue (is_in txn (numbers_in (drawn stock ds))) →
    (j : ℕ) × (j < length ds) × ((get_or stock (get_or ds j 0) nobody).turn.txn ≡ txn)
in_drawn stock [] txn there = absurd (false≢true there)
in_drawn stock (k ∷ ds) txn there = by_test ((get_or stock k nobody).turn.txn == txn) refl there (in_drawn stock ds txn)
  where
    by_test : (b : Bool) → ((get_or stock k nobody).turn.txn == txn) ≡ b → IsTrue (b || is_in txn (numbers_in (drawn stock ds))) →
        (IsTrue (is_in txn (numbers_in (drawn stock ds))) →
        (j : ℕ) × (j < length ds) × ((get_or stock (get_or ds j 0) nobody).turn.txn ≡ txn)) →
        (j : ℕ) × (j < length (k ∷ ds)) × ((get_or stock (get_or (k ∷ ds) j 0) nobody).turn.txn ≡ txn)
    by_test true e there later = (0, omega arith, eq_of (get_or stock k nobody).turn.txn txn e)
    by_test false e there later = (let r = later there in let low = r.1 in (suc r.0, omega arith, r.2))

-- One more.

-- one that was not played yet is among those that are played
plays_joined : (setting : Setting) (old pass : PassView) (were are : List Seat) (was : Seat) → (IsTrue (is_in was.turn.txn (numbers_in were)) → ⊥) →
    PlaysAll setting [] old pass were are → PlaysAll setting [] old pass (were ++ was ∷ []) (are ++ was ∷ [])
plays_joined setting old pass were are was new_one plays = record {
  made = plays.made;
  goes = plays.goes;
  rights = plays.rights;
  mine = plays.mine;
  own = subst (λ (ns : List ℕ). AreDealt ns plays.made) (sym (map_both (λ (s : Seat). s.turn.txn) were (was ∷ [])))
      (dealt_wider (numbers_in were) (was.turn.txn ∷ []) plays.made plays.own);
  count = omega (arith, length-append were (was ∷ []), length-append are (was ∷ []), plays.count);
  txns = λ i d inside. txn_at i d (cases_lt i (length were)) (omega (arith, inside, length-append were (was ∷ [])));
  comes = λ i d inside opening receipts searches start fits come.
      comes_at i d (cases_lt i (length were)) (omega (arith, inside, length-append were (was ∷ []))) opening receipts searches start fits come;
}
  where
    last_were : (i : ℕ) (d : Seat) → length were ≤ i → i < length were + 1 → get_or (were ++ was ∷ []) i d ≡ was
    last_were i d far low = (let at : i ≡ length were = omega arith in
        ap (λ (n : ℕ). get_or (were ++ was ∷ []) n d) at ∙ get_or-append_seam were was [] d)

    last_are : (i : ℕ) (d : Seat) → length were ≤ i → i < length were + 1 → get_or (are ++ was ∷ []) i d ≡ was
    last_are i d far low = (let at : i ≡ length are = omega (arith, far, low, plays.count) in
        ap (λ (n : ℕ). get_or (are ++ was ∷ []) n d) at ∙ get_or-append_seam are was [] d)

    first_were : (i : ℕ) (d : Seat) → i < length were → get_or (were ++ was ∷ []) i d ≡ get_or were i d
    first_were i d low = get_or_append_left were (was ∷ []) d i low

    first_are : (i : ℕ) (d : Seat) → i < length were → get_or (are ++ was ∷ []) i d ≡ get_or are i d
    first_are i d low = get_or_append_left are (was ∷ []) d i (omega (arith, low, plays.count))

    txn_at : (i : ℕ) (d : Seat) → (i < length were) ⊎ (length were ≤ i) → i < length were + 1 →
        (get_or (are ++ was ∷ []) i d).turn.txn ≡ (get_or (were ++ was ∷ []) i d).turn.txn
    txn_at i d (inl low) inside =
        ap (λ (s : Seat). s.turn.txn) (first_are i d low) ∙ plays.txns i d low ∙ ap (λ (s : Seat). s.turn.txn) (sym (first_were i d low))
    txn_at i d (inr far) inside = ap (λ (s : Seat). s.turn.txn) (last_are i d far inside ∙ sym (last_were i d far inside))

    comes_at : (i : ℕ) (d : Seat) → (i < length were) ⊎ (length were ≤ i) → i < length were + 1 →
        Brings setting [] old.front pass.front (get_or (were ++ was ∷ []) i d) (get_or (are ++ was ∷ []) i d)
        (own_in (get_or (were ++ was ∷ []) i d).turn.txn plays.made)
    comes_at i d (inl low) inside =
        subst (λ (s : Seat). Brings setting [] old.front pass.front s (get_or (are ++ was ∷ []) i d) (own_in s.turn.txn plays.made))
        (sym (first_were i d low))
        (subst (λ (s : Seat). Brings setting [] old.front pass.front (get_or were i d) s (own_in (get_or were i d).turn.txn plays.made))
        (sym (first_are i d low)) (plays.comes i d low))
    comes_at i d (inr far) inside =
        subst (λ (s : Seat). Brings setting [] old.front pass.front s (get_or (are ++ was ∷ []) i d) (own_in s.turn.txn plays.made))
        (sym (last_were i d far inside))
        (subst (λ (s : Seat). Brings setting [] old.front pass.front was s (own_in was.turn.txn plays.made)) (sym (last_are i d far inside)) stays)
      where
        stays : Brings setting [] old.front pass.front was was (own_in was.turn.txn plays.made)
        stays opening receipts searches start fits come =
            subst (λ (rs : List Receipt). HasCome true setting searches pass.front opening was rs)
            (sym (ap (λ rs. receipts ++ rs) (own_out (numbers_in were) was.turn.txn plays.made new_one plays.own) ∙ append-nil receipts))
            (come_on true setting searches old.front pass.front opening was receipts plays.goes.front come)

-- and is played
plays_drawn : (setting : Setting) (old pass new : PassView) (were are : List Seat) (was is : Seat) → AreDistinct (were ++ was ∷ []) →
    (IsTrue (is_in was.turn.txn (numbers_in were)) → ⊥) → PlaysAll setting [] old pass were are → PlaysOn setting [] pass new was is →
    PlaysAll setting [] old new (were ++ was ∷ []) (are ++ is ∷ [])
plays_drawn setting old pass new were are was is distinct new_one plays next =
    subst (PlaysAll setting [] old new (were ++ was ∷ [])) (set-append_seam are was [] is)
    (plays_more setting [] old pass new (were ++ was ∷ []) (are ++ was ∷ []) (length are) was is distinct
    (plays_joined setting old pass were are was new_one plays) (omega (arith, length-append are (was ∷ [])))
    (sym (get_or-append_seam are was [] was)) next)

work_append : (setting : Setting) (xs : List Seat) (s : Seat) → work_all setting (xs ++ s ∷ []) ≡ work_all setting xs + work setting s
work_append setting [] s = omega arith
work_append setting (x ∷ xs) s = omega (arith, work_append setting xs s)

spends_drawn : (setting : Setting) (old pass new : PassView) (were are : List Seat) (was is : Seat) → SpendsAll setting old pass were are →
    Spends setting pass new was is → SpendsAll setting old new (were ++ was ∷ []) (are ++ is ∷ [])
spends_drawn setting old pass new were are was is spends next =
    omega (arith, spends, next.events, work_append setting were was, work_append setting are is)

out_drawn : (were are : List Seat) (was is : Seat) → EachPair IsPlayedOut were are → IsPlayedOut was is →
    EachPair IsPlayedOut (were ++ was ∷ []) (are ++ is ∷ [])
out_drawn were are was is out next = (
  omega (arith, out.0, length-append were (was ∷ []), length-append are (is ∷ [])),
  λ i d inside. by_place i d (cases_lt i (length were)) (omega (arith, inside, length-append were (was ∷ []))),
)
  where
    by_place : (i : ℕ) (d : Seat) → (i < length were) ⊎ (length were ≤ i) → i < length were + 1 →
        IsPlayedOut (get_or (were ++ was ∷ []) i d) (get_or (are ++ is ∷ []) i d)
    by_place i d (inl low) inside =
        let first : get_or (were ++ was ∷ []) i d ≡ get_or were i d = get_or_append_left were (was ∷ []) d i low in
        let second : get_or (are ++ is ∷ []) i d ≡ get_or are i d = get_or_append_left are (is ∷ []) d i (omega (arith, low, out.0)) in
        subst (λ (s : Seat). IsPlayedOut s (get_or (are ++ is ∷ []) i d)) (sym first)
        (subst (IsPlayedOut (get_or were i d)) (sym second) (out.1 i d low))
    by_place i d (inr far) inside =
        let at : i ≡ length were = omega (arith, far, inside) in
        let at_too : i ≡ length are = omega (arith, at, out.0) in
        let first : get_or (were ++ was ∷ []) i d ≡ was =
        ap (λ (n : ℕ). get_or (were ++ was ∷ []) n d) at ∙ get_or-append_seam were was [] d in
        let second : get_or (are ++ is ∷ []) i d ≡ is = ap (λ (n : ℕ). get_or (are ++ is ∷ []) n d) at_too ∙ get_or-append_seam are is [] d in
        subst (λ (s : Seat). IsPlayedOut s (get_or (are ++ is ∷ []) i d)) (sym first) (subst (IsPlayedOut was) (sym second) next)

all_one : (P : Seat → Type 0) (x : Seat) → P x → All P (x ∷ [])
all_one P x p zero d inside = p
all_one P x p (suc k) d inside = absurd (omega arith)

-- What a seat knows when it has drawn one more.

-- an index that was given back has a transaction
gave_there : (k : ℕ) (gave : List (ℕ × Seat)) → 0 < times k (indexes_of gave) → (x : Seat) × Gave gave k x
gave_there k [] has = absurd (omega arith)
gave_there k ((i, x) ∷ gave) has = by_test (cases_eq i k) (gave_there k gave)
  where
    by_test : (i ≡ k) ⊎ (i ≢ k) → (0 < times k (indexes_of gave) → (y : Seat) × Gave gave k y) → (y : Seat) × Gave ((i, x) ∷ gave) k y
    by_test (inl same) later = (x, (0, ap (λ (n : ℕ). some (n, x)) same))
    by_test (inr differs) later = (let none = weight_else i k differs in let r = later (omega arith) in (r.0, (suc r.1.0, r.1.1)))

once_more : (xs : List ℕ) (i : ℕ) → ((k : ℕ) → times k xs ≤ 1) → times i xs ≡ 0 → (k : ℕ) → times k (xs ++ i ∷ []) ≤ 1
once_more xs i once none k = by_test (cases_eq i k)
  where
    by_test : (i ≡ k) ⊎ (i ≢ k) → times k (xs ++ i ∷ []) ≤ 1
    by_test (inl same) =
        let sum = times_append k xs (i ∷ []) in
        let one = subst (λ (n : ℕ). times n xs ≡ 0) same none in
        let here = subst (λ (n : ℕ). times n (i ∷ []) ≡ 1) same (let w = weight_same i in omega arith) in
        omega (arith, sum, one, here)
    by_test (inr differs) = (let sum = times_append k xs (i ∷ []) in let w = weight_else i k differs in let most = once k in omega arith)

-- not in a list of indexes that gave all back
fresh_of : (i : ℕ) (v : View Seat) → indexes_of v.gave ≡ v.drew → ((y : Seat) → Gave v.gave i y → ⊥) → times i v.drew ≡ 0
fresh_of i v returned new_one = by_test (cases_eq (times i v.drew) 0)
  where
    by_test : (times i v.drew ≡ 0) ⊎ (times i v.drew ≢ 0) → times i v.drew ≡ 0
    by_test (inl none) = none
    by_test (inr has) =
        let there : 0 < times i (indexes_of v.gave) = subst (λ (l : List ℕ). 0 < times i l) (sym returned) (omega (arith, has)) in
        let r = gave_there i v.gave there in
        absurd (new_one r.0 r.1)

pub drawn_none : (setting : Setting) (pass : PassView) (v : View Seat) → IsSound setting pass → v.drew ≡ [] → v.gave ≡ [] →
    IsDrawn setting v.stock pass pass v
drawn_none setting pass v sound drew gave = record {
  used = record {
    stocked = refl;
    returned = ap indexes_of gave ∙ sym drew;
    inside = subst (AllByRecursion (λ k. k < length v.stock)) (sym drew) tt;
    once = λ k. subst (λ (l : List ℕ). times k l ≤ 1) (sym drew) (omega arith);
  };
  noted = keeps_notes_itself setting pass pass refl;
  plays = subst (λ (l : List ℕ). PlaysOut setting pass pass (drawn v.stock l) (given v.gave)) (sym drew)
      (subst (λ (l : List (ℕ × Seat)). PlaysOut setting pass pass [] (given l)) (sym gave) nothing);
}
  where
    nothing : PlaysOut setting pass pass [] []
    nothing = record {
      plays = plays_none setting [] pass [] sound;
      spends = omega arith;
      fit = λ k d inside. absurd (omega arith);
      out = (refl, λ k d inside. absurd (omega arith));
    }

-- the transactions behind one more index
drawn_snoc : (stock : List Seat) (ds : List ℕ) (i : ℕ) → drawn stock (ds ++ i ∷ []) ≡ drawn stock ds ++ get_or stock i nobody ∷ []
drawn_snoc stock ds i = map_both (λ (k : ℕ). get_or stock k nobody) ds (i ∷ [])

plays_next : (setting : Setting) (stock : List Seat) (old pass new : PassView) (was : View Seat) (index : ℕ) (turn : Seat) → AreDistinct stock →
    IsDrawn setting stock old pass was → index < length stock → times index was.drew ≡ 0 → PlaysOn setting [] pass new (get_or stock index nobody) turn →
    Spends setting pass new (get_or stock index nobody) turn → IsFit setting turn → IsPlayedOut (get_or stock index nobody) turn →
    PlaysOut setting old new (drawn stock was.drew ++ get_or stock index nobody ∷ []) (given was.gave ++ turn ∷ [])
plays_next setting stock old pass new was index turn distinct drew low none plays spends fit out = record {
  plays = plays_drawn setting old pass new (drawn stock was.drew) (given was.gave) item turn
      (subst AreDistinct (drawn_snoc stock was.drew index)
      (drawn_distinct stock (was.drew ++ index ∷ []) distinct
      (all_append (λ k. k < length stock) was.drew (index ∷ []) drew.used.inside (low, tt))
      (once_more was.drew index drew.used.once none)))
      (λ there. not_there (in_drawn stock was.drew item.turn.txn there)) drew.plays.plays plays;
  spends = spends_drawn setting old pass new (drawn stock was.drew) (given was.gave) item turn drew.plays.spends spends;
  fit = All-append (IsFit setting) (given was.gave) (turn ∷ []) drew.plays.fit (all_one (IsFit setting) turn fit);
  out = out_drawn (drawn stock was.drew) (given was.gave) item turn drew.plays.out out;
}
  where
    item : Seat
    item = get_or stock index nobody

    not_there : (j : ℕ) × (j < length was.drew) × ((get_or stock (get_or was.drew j 0) nobody).turn.txn ≡ (get_or stock index nobody).turn.txn) → ⊥
    not_there (j, in_j, same) =
        let at : get_or was.drew j 0 ≡ index =
        distinct (get_or was.drew j 0) index nobody (all_at (λ k. k < length stock) was.drew drew.used.inside j 0 in_j) low same in
        let twice : 0 < times index was.drew = subst (λ (n : ℕ). 0 < times n was.drew) at (times_here was.drew j 0 in_j) in
        omega (arith, twice, none)

pub drawn_more : (setting : Setting) (stock : List Seat) (old pass new : PassView) (was is : View Seat) → AreDistinct stock →
    IsDrawn setting stock old pass was → DrewOne setting pass new was is → IsDrawn setting stock old new is
drawn_more setting stock old pass new was is distinct drew one = subst (IsDrawn setting stock old new) (sym one.knows_is) more
  where
    low : one.index < length stock
    low = subst (λ (l : List Seat). one.index < length l) drew.used.stocked one.inside

    none : times one.index was.drew ≡ 0
    none = fresh_of one.index was drew.used.returned one.new_one

    item_is : one.item ≡ get_or stock one.index nobody
    item_is = one.at ∙ ap (λ (l : List Seat). get_or l one.index nobody) drew.used.stocked

    plays : PlaysOut setting old new (drawn stock (was.drew ++ one.index ∷ [])) (given (was.gave ++ (one.index, one.turn) ∷ []))
    plays =
        subst (λ (l : List Seat). PlaysOut setting old new l (given (was.gave ++ (one.index, one.turn) ∷ []))) (sym (drawn_snoc stock was.drew one.index))
        (subst (PlaysOut setting old new (drawn stock was.drew ++ get_or stock one.index nobody ∷ []))
        (sym (map_both (λ (g : ℕ × Seat). g.1) was.gave ((one.index, one.turn) ∷ [])))
        (plays_next setting stock old pass new was one.index one.turn distinct drew low none
        (subst (λ (s : Seat). PlaysOn setting [] pass new s one.turn) item_is one.plays)
        (subst (λ (s : Seat). Spends setting pass new s one.turn) item_is one.spends) one.fit
        (subst (λ (s : Seat). IsPlayedOut s one.turn) item_is one.out)))

    more : IsDrawn setting stock old new (record was { drew = was.drew ++ one.index ∷ []; gave = was.gave ++ (one.index, one.turn) ∷ [] })
    more = record {
      noted = keeps_notes_then setting old pass new drew.noted one.noted;
      used = record {
        stocked = drew.used.stocked;
        returned = map_both (λ (g : ℕ × Seat). g.0) was.gave ((one.index, one.turn) ∷ []) ∙ ap (λ (l : List ℕ). l ++ one.index ∷ []) drew.used.returned;
        inside = all_append (λ k. k < length stock) was.drew (one.index ∷ []) drew.used.inside (low, tt);
        once = once_more was.drew one.index drew.used.once none;
      };
      plays = plays;
    }

-- what is known of the last draw
pub drawn_end : (setting : Setting) (stock : List Seat) (old new : PassView) (was is : View Seat) → IsDrawn setting stock old new was →
    is ≡ record was { nones = 1 } → IsDrawn setting stock old new is
drawn_end setting stock old new was is drew same = subst (IsDrawn setting stock old new) (sym same)
    (record {
      noted = drew.noted;
      used = record { stocked = drew.used.stocked; returned = drew.used.returned; inside = drew.used.inside; once = drew.used.once };
      plays = drew.plays;
    })
