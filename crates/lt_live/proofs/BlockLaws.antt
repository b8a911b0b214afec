-- Blocks of one pass: a transaction's receipts among those of all of them.
use Rattle.std.proofs.Common.{◌≡◌, ◌≢◌, ℕ, suc, ◌≤◌, List, [], ◌∷◌, ◌++◌, Bool, true, false, ◌==◌, ◌||◌, IsTrue, map}
use Rattle.std.proofs.Common.{refl, sym, ap, ◌∙◌, arith, eq-eqb}
use Rattle.std.specs.List.{AllByRecursion, flat_map}
use Rattle.std.proofs.lemmas.Bool.{false≢true}
use Rattle.std.proofs.lemmas.List.{append-nil}
use Rattle.lt_ranges.specs.Numbers.{is_in}
use Rattle.lt_seq.specs.declared.event.Event.{Event}
use Rattle.lt_seq.specs.declared.event.Receipt.{Receipt}
use Rattle.lt_seq.specs.Table.{Setting}
use Rattle.lt_trace.specs.declared.line.Line.{Line}
use Rattle.lt_crew.specs.Crew.{own_in, AreDealt}
use Rattle.lt_crew.proofs.OwnLaws.{own_all, own_none, own_in-append, dealt_append, dealt_own}
use Rattle.lt_live.specs.Deals.{times}
use Rattle.lt_live.specs.Live.{Block, IsBlock, number_of}
use Rattle.lt_live.proofs.TimesLaws.{times_own, times_fewer}

abbrev pub made_of : List Block → List Receipt
made_of blocks = flat_map (λ (b : Block). b.made) blocks

abbrev pub numbers_of : List Block → List ℕ
numbers_of blocks = map number_of blocks

-- the block's transaction is among these, and among their receipts its own are the block's
pub record IsAmongBlocks (blocks : List Block) (block : Block) : Type 0 where
  pub there : 1 ≤ times (number_of block) (numbers_of blocks)
  pub made : own_in (number_of block) (made_of blocks) ≡ block.made

dealt_more : (number : ℕ) (numbers : List ℕ) (receipts : List Receipt) → AreDealt numbers receipts → AreDealt (number ∷ numbers) receipts
dealt_more number numbers [] all = tt
dealt_more number numbers (r ∷ rs) all =
    (or_right (number == r.event.txn) (is_in r.event.txn numbers) all.0, dealt_more number numbers rs all.1)
  where
    or_right : (a b : Bool) → IsTrue b → IsTrue (a || b)
    or_right true b e = refl
    or_right false b e = e

first_there : (number : ℕ) (numbers : List ℕ) → IsTrue (is_in number (number ∷ numbers))
first_there number numbers = or_left (number == number) (is_in number numbers) (eq-eqb number number refl)
  where
    or_left : (a b : Bool) → a ≡ true → IsTrue (a || b)
    or_left true b e = refl
    or_left false b e = absurd (false≢true e)

-- no block is of a transaction that is not among theirs
others : (txn : ℕ) (blocks : List Block) → times txn (numbers_of blocks) ≡ 0 → AllByRecursion (λ b. number_of b ≢ txn) blocks
others txn [] none = tt
others txn (b ∷ bs) none =
    let fewer = times_fewer txn (number_of b) (numbers_of bs) in (
      (λ same. (let k = times_own txn (number_of b) (numbers_of bs) same in absurd (omega (arith, none, k)))),
      others txn bs (omega (arith, none, fewer)),
    )

module _ (setting : Setting) (lines : List Line) (history : List Event) where
  -- all their receipts are of their transactions
  pub blocks_dealt : (blocks : List Block) → AllByRecursion (IsBlock setting lines history) blocks →
      AreDealt (numbers_of blocks) (made_of blocks)
  blocks_dealt [] all = tt
  blocks_dealt (b ∷ bs) all =
      dealt_append (numbers_of (b ∷ bs)) b.made (made_of bs)
      (dealt_own (numbers_of (b ∷ bs)) (number_of b) b.made (first_there (number_of b) (numbers_of bs)) all.0.own)
      (dealt_more (number_of b) (numbers_of bs) (made_of bs) (blocks_dealt bs all.1))

  own_absent : (txn : ℕ) (blocks : List Block) → AllByRecursion (IsBlock setting lines history) blocks →
      AllByRecursion (λ b. number_of b ≢ txn) blocks → own_in txn (made_of blocks) ≡ []
  own_absent txn [] all apart = refl
  own_absent txn (b ∷ bs) all apart =
      own_in-append txn b.made (made_of bs)
      ∙ ap (λ rs. rs ++ own_in txn (made_of bs)) (own_none txn (number_of b) b.made all.0.own (λ same. apart.0 (sym same)))
      ∙ own_absent txn bs all.1 apart.1

  -- where no two are of one transaction, each has all of its own
  pub all_among : (blocks : List Block) → ((txn : ℕ) → times txn (numbers_of blocks) ≤ 1) →
      AllByRecursion (IsBlock setting lines history) blocks → AllByRecursion (IsAmongBlocks blocks) blocks
  all_among [] few all = tt
  all_among (b ∷ bs) few all = (
    record {
      there = omega (arith, once);
      made = own_in-append (number_of b) b.made (made_of bs)
          ∙ ap (λ rs. rs ++ own_in (number_of b) (made_of bs)) (own_all (number_of b) b.made all.0.own)
          ∙ ap (λ rs. b.made ++ rs) (own_absent (number_of b) bs all.1 apart)
          ∙ append-nil b.made;
    },
    later bs apart (all_among bs (λ txn. (let k = times_fewer txn (number_of b) (numbers_of bs) in let n = few txn in omega (arith, k, n))) all.1),
  )
    where
      once : times (number_of b) (numbers_of (b ∷ bs)) ≡ suc (times (number_of b) (numbers_of bs))
      once = times_own (number_of b) (number_of b) (numbers_of bs) refl

      apart : AllByRecursion (λ c. number_of c ≢ number_of b) bs
      apart = others (number_of b) bs (let n = few (number_of b) in omega (arith, once, n))

      later : (cs : List Block) → AllByRecursion (λ c. number_of c ≢ number_of b) cs → AllByRecursion (IsAmongBlocks bs) cs →
          AllByRecursion (IsAmongBlocks (b ∷ bs)) cs
      later [] others among = tt
      later (c ∷ cs) others among = (
        record {
          there = (let k = times_fewer (number_of c) (number_of b) (numbers_of bs) in let n = among.0.there in omega (arith, k, n));
          made = own_in-append (number_of c) b.made (made_of bs)
              ∙ ap (λ rs. rs ++ own_in (number_of c) (made_of bs)) (own_none (number_of c) (number_of b) b.made all.0.own others.0)
              ∙ among.0.made;
        },
        later cs others.1 among.1,
      )
