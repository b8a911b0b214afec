-- The book stays one where a transaction begins, does one more operation, commits or aborts.
use Rattle.std.proofs.Common.{◌≡◌, ◌≢◌, ℕ, ◌+◌, List, [], ◌∷◌, ◌++◌, map, length, ◌⊎◌, inl, inr, refl, sym, ap, subst, ◌∙◌, arith, append_assoc, append-nil}
use Rattle.lt_store.specs.declared.row.StoreRow.{StoreRow}
use Rattle.lt_store.specs.declared.op.Op.{Op}
use Rattle.lt_store.specs.declared.op.Op.TheVariants.{Get, Put, Scan, Commit, Abort}
use Rattle.lt_store.specs.declared.done.Done.{Done}
use Rattle.lt_store.specs.declared.answer.Answer.{Answer}
use Rattle.lt_store.specs.declared.undo.Undo.{Undo}
use Rattle.lt_store.specs.Rows.{find}
use Rattle.lt_store.specs.Rerun.{answer_on, map_after, after_ops, after_all, rerun, AreAnswers, AllAreAnswers}
use Rattle.lt_store.specs.Undoing.{undo_op, undo_of, unwound, CanUnwind}
use Rattle.lt_store.specs.Clear.{IsClearOf, AreClearOf, AreClearOfAll, AllAreClearOf, Clear}
use Rattle.lt_store.specs.Book.{Acts, BookView, In, dones, Ascends, IsBook}
use Rattle.lt_store.proofs.RerunLaws.{swapped, answers_behind, undo_behind, last_of_all, all-append, ops-append, behind_others, before_others, undo_behind_all, answers_behind_all, unwinds, can_unwind}
use Rattle.lt_store.proofs.LiveLaws.{in_middle, in_others, in_changed, in_before, in_behind, dones-append, clear_each, each_clear, ascends_without, ascends_changed, others_differ}

-- the lists of a transaction and of the others
dones_around : (before : List Acts) (a : Acts) (behind : List Acts) → dones (before ++ a ∷ behind) ≡ dones before ++ a.done ∷ dones behind
dones_around before a behind = dones-append before (a ∷ behind)

-- Both of a record of operations, one after another.
answers-append : (rows : List StoreRow) (xs ys : List Done) → AreAnswers rows xs → AreAnswers (after_ops rows xs) ys → AreAnswers rows (xs ++ ys)
answers-append rows [] ys h k = k
answers-append rows (d ∷ ds) ys h k = (h.0, answers-append (map_after rows d.op) ds ys h.1 k)

undo-append : (rows : List StoreRow) (xs ys : List Done) → undo_of rows (xs ++ ys) ≡ undo_of rows xs ++ undo_of (after_ops rows xs) ys
undo-append rows [] ys = refl
undo-append rows (d ∷ ds) ys =
    ap (λ (us : List Undo). undo_op rows d.op ++ us) (undo-append (map_after rows d.op) ds ys)
    ∙ sym (append_assoc (undo_op rows d.op) (undo_of (map_after rows d.op) ds) (undo_of (after_ops (map_after rows d.op) ds) ys))

all_answers-append : (rows : List StoreRow) (xs : List (List Done)) (ops : List Done) → AllAreAnswers rows xs → AreAnswers (after_all rows xs) ops → AllAreAnswers rows (xs ++ ops ∷ [])
all_answers-append rows [] ops h k = (k, tt)
all_answers-append rows (x ∷ xs) ops h k = (h.0, all_answers-append (after_ops rows x) xs ops h.1 k)

clear-append : (xs ys ops : List Done) → AreClearOf xs ops → AreClearOf ys ops → AreClearOf (xs ++ ys) ops
clear-append [] ys ops h k = k
clear-append (d ∷ ds) ys ops h k = (h.0, clear-append ds ys ops h.1 k)

is_clear-append : (op : Op) (xs ys : List Done) → IsClearOf op xs → IsClearOf op ys → IsClearOf op (xs ++ ys)
is_clear-append (Get key) xs ys h k = tt
is_clear-append (Put key value) xs ys h k = go xs h
  where
    go : (zs : List Done) → Clear key zs → Clear key (zs ++ ys)
    go [] c = k
    go (z ∷ zs) c = (c.0, go zs c.1)
is_clear-append (Scan range) xs ys h k = tt
is_clear-append Commit xs ys h k = tt
is_clear-append Abort xs ys h k = tt

of-append : (puts xs ys : List Done) → AreClearOf puts xs → AreClearOf puts ys → AreClearOf puts (xs ++ ys)
of-append [] xs ys h k = tt
of-append (d ∷ ds) xs ys h k = (is_clear-append d.op xs ys h.0 k.0, of-append ds xs ys h.1 k.1)

abbrev done_as : Op → Answer → Done
done_as op answer = record { op = op; answer = answer }

-- an operation that meets no put of some transactions answers the same behind them
sees_same : (rows : List StoreRow) (all : List (List Done)) (op : Op) (any : Answer) → AllAreClearOf all (done_as op any ∷ []) → answer_on (after_all rows all) op ≡ answer_on rows op
sees_same rows all op any clear =
    let one : Done = done_as op (answer_on rows op) in
    let same : AreAnswers (after_all rows all) (one ∷ []) = answers_behind_all rows all (one ∷ []) (still all clear) (refl, tt) in
    sym same.0
  where
    still : (xs : List (List Done)) → AllAreClearOf xs (done_as op any ∷ []) → AllAreClearOf xs (done_as op (answer_on rows op) ∷ [])
    still [] h = tt
    still (x ∷ xs) h = (inner x h.0, still xs h.1)
      where
        inner : (ds : List Done) → AreClearOf ds (done_as op any ∷ []) → AreClearOf ds (done_as op (answer_on rows op) ∷ [])
        inner [] k = tt
        inner (e ∷ es) k = (by e.op k.0, inner es k.1)
          where
            by : (o : Op) → IsClearOf o (done_as op any ∷ []) → IsClearOf o (done_as op (answer_on rows op) ∷ [])
            by (Get key) m = m
            by (Put key value) m = m
            by (Scan range) m = m
            by Commit m = m
            by Abort m = m

-- A transaction among the live ones.
module _ (book : BookView) (is : IsBook book) (before : List Acts) (a : Acts) (behind : List Acts) (live : book.live ≡ before ++ a ∷ behind) where
  there : (x : Acts) → In (before ++ a ∷ behind) x → In book.live x
  there x h = subst (λ (l : List Acts). In l x) (sym live) h

  mine : In book.live a
  mine = there a (in_middle before a behind)

  other : (x : Acts) → In (before ++ behind) x → In book.live x
  other x h = there x (in_others before a behind x h)

  ascending : Ascends (before ++ a ∷ behind)
  ascending = subst Ascends live is.ascends

  differ : (x : Acts) → In (before ++ behind) x → x.txn ≢ a.txn
  differ x h = others_differ before a behind x ascending h

  back : (x : Acts) → In (before ++ behind) x → a.txn ≢ x.txn
  back x h same = differ x h (sym same)

  base : List StoreRow
  base = rerun book.commits

  -- its puts touch no key of the others, and theirs none of its own
  puts_clear : (x : Acts) → In (before ++ behind) x → AreClearOf a.done x.done
  puts_clear x h = is.apart a x mine (other x h) (back x h)

  others_clear : (x : Acts) → In (before ++ behind) x → AreClearOf x.done a.done
  others_clear x h = is.apart x a (other x h) mine (differ x h)

  all_behind : AreClearOfAll a.done (dones behind)
  all_behind = clear_each a.done behind (λ x h. puts_clear x (in_behind before behind x h))

  all_before : AreClearOfAll a.done (dones before)
  all_before = clear_each a.done before (λ x h. puts_clear x (in_before before behind x h))

  -- the rows are the map behind the others, and then the transaction
  pub rows_last : book.rows ≡ after_ops (after_all (rerun book.commits) (dones before ++ dones behind)) a.done
  rows_last =
      is.rows ∙ ap (λ (l : List Acts). after_all (rerun book.commits) (dones l)) live
      ∙ ap (λ (l : List (List Done)). after_all (rerun book.commits) l) (dones_around before a behind)
      ∙ behind_others (rerun book.commits) (dones before) a.done (dones behind) all_behind

  -- or the transaction, and then the others
  rows_first : book.rows ≡ after_all (after_ops (rerun book.commits) a.done) (dones before ++ dones behind)
  rows_first =
      is.rows ∙ ap (λ (l : List Acts). after_all (rerun book.commits) (dones l)) live
      ∙ ap (λ (l : List (List Done)). after_all (rerun book.commits) l) (dones_around before a behind)
      ∙ before_others (rerun book.commits) (dones before) a.done (dones behind) all_before all_behind

  one_more : rerun (book.commits ++ a.done ∷ []) ≡ after_ops (rerun book.commits) a.done
  one_more = all-append [] book.commits (a.done ∷ [])

  apart_still : (x y : Acts) → In (before ++ behind) x → In (before ++ behind) y → x.txn ≢ y.txn → AreClearOf x.done y.done
  apart_still x y h k d = is.apart x y (other x h) (other y k) d

  -- it commits
  pub commits : (ended : List ℕ) → IsBook (record book { commits = book.commits ++ a.done ∷ []; live = before ++ behind; ended = ended })
  commits ended = record {
    commits = all_answers-append [] book.commits a.done is.commits (is.answers a mine);
    rows = rows_first ∙ ap (λ (l : List StoreRow). after_all l (dones before ++ dones behind)) (sym one_more)
        ∙ ap (λ (l : List (List Done)). after_all (rerun (book.commits ++ a.done ∷ [])) l) (sym (dones-append before behind));
    answers = λ x h. subst (λ (l : List StoreRow). AreAnswers l x.done) (sym one_more) (answers_behind (rerun book.commits) a.done x.done (puts_clear x h) (is.answers x (other x h)));
    undos = λ x h. is.undos x (other x h) ∙ sym (undo_behind (rerun book.commits) a.done x.done (puts_clear x h)) ∙ ap (λ (l : List StoreRow). undo_of l x.done) (sym one_more);
    apart = apart_still;
    ascends = ascends_without before a behind ascending;
  }

  -- what undoes its puts is what does so behind the others
  same_undo : a.undo ≡ undo_of (after_all (rerun book.commits) (dones before ++ dones behind)) a.done
  same_undo =
      is.undos a mine ∙ sym (undo_behind_all (rerun book.commits) (dones before ++ dones behind) a.done
      (subst (λ (l : List (List Done)). AllAreClearOf l a.done) (dones-append before behind) (each_clear (before ++ behind) a.done others_clear)))

  -- its puts are undone
  pub undone_rows : unwound book.rows a.undo ≡ after_all (rerun book.commits) (dones before ++ dones behind)
  undone_rows =
      let others = after_all (rerun book.commits) (dones before ++ dones behind) in
      ap (λ (l : List StoreRow). unwound l a.undo) rows_last
      ∙ ap (λ (us : List Undo). unwound (after_ops others a.done) us) same_undo
      ∙ unwinds others a.done

  -- as they can be
  pub can_undo : CanUnwind book.rows a.undo
  can_undo =
      let others = after_all (rerun book.commits) (dones before ++ dones behind) in
      subst (λ (l : List StoreRow). CanUnwind l a.undo) (sym rows_last)
      (subst (λ (us : List Undo). CanUnwind (after_ops others a.done) us) (sym same_undo) (can_unwind others a.done))

  pub aborts : (ended gone : List ℕ) → IsBook (record book { rows = unwound book.rows a.undo; live = before ++ behind; ended = ended; gone = gone })
  aborts ended gone = record {
    commits = is.commits;
    rows = undone_rows ∙ ap (λ (l : List (List Done)). after_all (rerun book.commits) l) (sym (dones-append before behind));
    answers = λ x h. is.answers x (other x h);
    undos = λ x h. is.undos x (other x h);
    apart = apart_still;
    ascends = ascends_without before a behind ascending;
  }

  -- it does one more operation, which meets no other transaction
  module _ (d : Done) (puts : (x : Acts) → In (before ++ behind) x → IsClearOf d.op x.done) (met : (x : Acts) → In (before ++ behind) x → AreClearOf x.done (d ∷ []))
      (answer : d.answer ≡ answer_on book.rows d.op) where
    others_map : List StoreRow
    others_map = after_all (rerun book.commits) (dones before ++ dones behind)

    own_map : List StoreRow
    own_map = after_ops (rerun book.commits) a.done

    met_all : AllAreClearOf (dones before ++ dones behind) (d ∷ [])
    met_all = subst (λ (l : List (List Done)). AllAreClearOf l (d ∷ [])) (dones-append before behind) (each_clear (before ++ behind) (d ∷ []) met)

    -- the others' puts do not change what it sees
    sees : answer_on book.rows d.op ≡ answer_on (after_ops (rerun book.commits) a.done) d.op
    sees = ap (λ (l : List StoreRow). answer_on l d.op) rows_first
        ∙ sees_same (after_ops (rerun book.commits) a.done) (dones before ++ dones behind) d.op d.answer met_all

    undoes : undo_op book.rows d.op ≡ undo_of (after_ops (rerun book.commits) a.done) (d ∷ [])
    undoes = sym (append-nil (undo_op book.rows d.op)) ∙ ap (λ (l : List StoreRow). undo_of l (d ∷ [])) rows_first
        ∙ undo_behind_all (after_ops (rerun book.commits) a.done) (dones before ++ dones behind) (d ∷ []) met_all

    now : Acts
    now = record { txn = a.txn; done = a.done ++ d ∷ []; undo = a.undo ++ undo_op book.rows d.op }

    puts_now : (x : Acts) → In (before ++ behind) x → AreClearOf (a.done ++ d ∷ []) x.done
    puts_now x h = clear-append a.done (d ∷ []) x.done (puts_clear x h) (puts x h, tt)

    met_now : (x : Acts) → In (before ++ behind) x → AreClearOf x.done (a.done ++ d ∷ [])
    met_now x h = of-append x.done a.done (d ∷ []) (others_clear x h) (met x h)

    rows_now : map_after book.rows d.op ≡ after_all (rerun book.commits) (dones (before ++ record { txn = a.txn; done = a.done ++ d ∷ []; undo = a.undo ++ undo_op book.rows d.op } ∷ behind))
    rows_now =
        ap (λ (l : List StoreRow). map_after l d.op) rows_last
        ∙ sym (ops-append (after_all (rerun book.commits) (dones before ++ dones behind)) a.done (d ∷ []))
        ∙ sym (behind_others (rerun book.commits) (dones before) (a.done ++ d ∷ []) (dones behind) (clear_each (a.done ++ d ∷ []) behind (λ x h. puts_now x (in_behind before behind x h))))
        ∙ ap (λ (l : List (List Done)). after_all (rerun book.commits) l) (sym (dones_around before (record { txn = a.txn; done = a.done ++ d ∷ []; undo = a.undo ++ undo_op book.rows d.op }) behind))

    pub does : IsBook (record book { rows = map_after book.rows d.op; live = before ++ record { txn = a.txn; done = a.done ++ d ∷ []; undo = a.undo ++ undo_op book.rows d.op } ∷ behind })
    does = record {
      commits = is.commits;
      rows = rows_now;
      answers = λ x h. elim (in_changed before now_is behind x h) [
        | inl e ↦ subst (λ (y : Acts). AreAnswers (rerun book.commits) y.done) e
            (answers-append (rerun book.commits) a.done (d ∷ []) (is.answers a mine) (answer ∙ sees, tt))
        | inr k ↦ is.answers x (other x k)
      ];
      undos = λ x h. elim (in_changed before now_is behind x h) [
        | inl e ↦ subst (λ (y : Acts). y.undo ≡ undo_of (rerun book.commits) y.done) e
            (ap (λ (us : List Undo). us ++ undo_op book.rows d.op) (is.undos a mine)
            ∙ ap (λ (us : List Undo). undo_of (rerun book.commits) a.done ++ us) undoes
            ∙ sym (undo-append (rerun book.commits) a.done (d ∷ [])))
        | inr k ↦ is.undos x (other x k)
      ];
      apart = λ x y h k ne. elim (in_changed before now_is behind x h) [
        | inl e ↦ elim (in_changed before now_is behind y k) [
          | inl f ↦ absurd (ne (ap (λ (z : Acts). z.txn) (sym e ∙ f)))
          | inr m ↦ subst (λ (z : Acts). AreClearOf z.done y.done) e (puts_now y m)
        ]
        | inr l ↦ elim (in_changed before now_is behind y k) [
          | inl f ↦ subst (λ (z : Acts). AreClearOf x.done z.done) f (met_now x l)
          | inr m ↦ apart_still x y l m ne
        ]
      ];
      ascends = ascends_changed before a now_is behind refl ascending;
    }
      where
        now_is : Acts
        now_is = record { txn = a.txn; done = a.done ++ d ∷ []; undo = a.undo ++ undo_op book.rows d.op }

-- one that has done nothing begins
module _ (book : BookView) (is : IsBook book) (before behind : List Acts) (txn : ℕ) (live : book.live ≡ before ++ behind) (ascends : Ascends (before ++ record { txn = txn; done = []; undo = [] } ∷ behind)) where
  was_in : (x : Acts) → In (before ++ behind) x → In book.live x
  was_in x h = subst (λ (l : List Acts). In l x) (sym live) h

  pub begins : IsBook (record book { live = before ++ record { txn = txn; done = []; undo = [] } ∷ behind })
  begins = record {
    commits = is.commits;
    rows = is.rows ∙ ap (λ (l : List Acts). after_all (rerun book.commits) (dones l)) live
        ∙ ap (λ (l : List (List Done)). after_all (rerun book.commits) l) (dones-append before behind)
        ∙ all-append (rerun book.commits) (dones before) (dones behind)
        ∙ sym (all-append (rerun book.commits) (dones before) ([] ∷ dones behind))
        ∙ ap (λ (l : List (List Done)). after_all (rerun book.commits) l) (sym (dones-append before (record { txn = txn; done = []; undo = [] } ∷ behind)));
    answers = λ x h. elim (in_changed before (record { txn = txn; done = []; undo = [] }) behind x h) [
      | inl e ↦ subst (λ (y : Acts). AreAnswers (rerun book.commits) y.done) e tt
      | inr k ↦ is.answers x (was_in x k)
    ];
    undos = λ x h. elim (in_changed before (record { txn = txn; done = []; undo = [] }) behind x h) [
      | inl e ↦ subst (λ (y : Acts). y.undo ≡ undo_of (rerun book.commits) y.done) e refl
      | inr k ↦ is.undos x (was_in x k)
    ];
    apart = λ x y h k ne. elim (in_changed before (record { txn = txn; done = []; undo = [] }) behind x h) [
      | inl e ↦ subst (λ (z : Acts). AreClearOf z.done y.done) e tt
      | inr l ↦ elim (in_changed before (record { txn = txn; done = []; undo = [] }) behind y k) [
        | inl f ↦ subst (λ (z : Acts). AreClearOf x.done z.done) f (of_none x.done)
        | inr m ↦ is.apart x y (was_in x l) (was_in y m) ne
      ]
    ];
    ascends = ascends;
  }
    where
      of_none : (ops : List Done) → AreClearOf ops []
      of_none [] = tt
      of_none (d ∷ ds) = (by d.op, of_none ds)
        where
          by : (op : Op) → IsClearOf op []
          by (Get key) = tt
          by (Put key value) = tt
          by (Scan range) = tt
          by Commit = tt
          by Abort = tt
