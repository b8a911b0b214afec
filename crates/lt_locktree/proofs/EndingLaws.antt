-- A plan that lays out the pairs after an event that ends a buffer meets what a commit asks.
use Rattle.std.proofs.Common.{◌≡◌, ℕ, zero, suc, ◌+◌, ◌<◌, ◌⊎◌, inl, inr, List, [], ◌∷◌, map, length, refl, sym, ap, ◌∙◌, subst, arith}
use Rattle.std.specs.Prelude.{pos}
use Rattle.lt_seq.specs.declared.event.Deed.{Deed}
use Rattle.lt_seq.specs.declared.event.Deed.TheVariants.{Ask, Free, Who, Join}
use Rattle.lt_seq.specs.declared.event.Mode.TheVariants.{Tree as TreeMode}
use Rattle.lt_seq.specs.declared.event.Pair.{Pair}
use Rattle.lt_seq.specs.declared.event.Reply.{Reply}
use Rattle.lt_seq.specs.declared.event.Reply.TheVariants.{Granted, HeldBy}
use Rattle.lt_seq.specs.Pairs.{others, granted, freed, count_freed, joined}
use Rattle.lt_rows.specs.Plan.{setting_of}
use Rattle.lt_seq.specs.Table.{TreeState, tree_of, after_ask, after_free, pairs_by, reply_by, raised}
use Rattle.lt_forest.specs.declared.part.PartRow.{PartRow}
use Rattle.lt_forest.specs.Counts.{times}
use Rattle.lt_forest.specs.Trees.{Nodes, in_order}
use Rattle.lt_forest.specs.Cuts.{bare}
use Rattle.lt_forest.specs.Forest.{IsTree}
use Rattle.lt_forest.specs.Parts.{numbers, row_pair}
use Rattle.lt_forest.specs.Views.{AllHeld, PoolPlan, no_pool, from_pool}
use Rattle.lt_forest.proofs.PublicLaws.{rows_show_pairs}
use Rattle.lt_forest.proofs.RowsAndHangs.{numbers_of}
use Rattle.lt_rows.specs.Lawful.{shown_after, ends_buffer, IsCommit}
use Rattle.lt_rows.proofs.Planned.{row_held}
use Rattle.lt_locktree.specs.Endings.{ChainHoldsBuffer, buffered_pairs, LaidBufferCommits, WhoEndsBuffer, HeldAskEndsBuffer}
use Rattle.lt_locktree.specs.Endings.{GrantedAskEndsBuffer, FreeEndsBuffer, JoinEndsBuffer}
use Rattle.lt_locktree.proofs.BufferedStates.{state, asked_state, asked_reply, freed_state, freed_number, mode_for_other}
use Rattle.lt_locktree.proofs.GrantedRuns.{length-numbers}

-- the rows that are taken from the pool are held
pub taken_held : {P : ℕ → Type 0} {planned : List ℕ} {trees : ℕ} {c d : Nodes} {taken given : List ℕ}
    → PoolPlan P planned trees c d taken given → AllHeld P taken
taken_held (no_pool none gone out) = λ q some. absurd (let z = ap (times q) none in omega arith)
taken_held (from_pool anchor taken given moves) = taken

some_of : (a b : ℕ) → 0 < a + b → (0 < a) ⊎ (0 < b)
some_of zero b some = inr (omega arith)
some_of (suc a) b some = inl (omega arith)

-- so a row of the new tree is one of the chain's or of those
by_where : {P : ℕ → Type 0} (tree : ℕ) (olds taken : List ℕ) → AllHeld P (tree ∷ olds) → AllHeld P taken
    → (q : ℕ) → (0 < times q olds) ⊎ (0 < times q taken) → P q
by_where tree olds taken held more q (inl old) = held q (omega arith)
by_where tree olds taken held more q (inr new) = more q new

pub either_held : {P : ℕ → Type 0} (tree : ℕ) (olds taken : List ℕ) → AllHeld P (tree ∷ olds) → AllHeld P taken
    → (q : ℕ) → 0 < times q olds + times q taken → P q
either_held tree olds taken held more q some =
    by_where tree olds taken held more q (some_of (times q olds) (times q taken) some)

pub laid_buffer_commits : LaidBufferCommits
laid_buffer_commits v owner count olds taken given rows plan e change buffer lt question lays over pool only pairs is_tree mode replies pass change_is
    licence =
    let d : Nodes = shown_after v plan in
    let nums : in_order (bare lays.new) ≡ numbers rows = sym (numbers_of d (in_order (bare lays.new))) ∙ ap numbers lays.rows_are in
    let long : length (in_order (bare lays.new)) ≡ length rows = ap length nums ∙ length-numbers rows in
    record {
      pass = pass;
      tree = lt;
      how = ends_buffer record {
        owner = owner;
        count = count;
        olds = olds;
        new = lays.new;
        taken = taken;
        given = given;
        question = question;
        ends = record {
          ends = record {
            was = buffer.mode;
            is_tree = is_tree;
            shows = buffer.chain;
            shows_new = lays.shows;
            no_hangs = lays.no_hangs;
            each_row = λ q. let n = ap (times q) nums in let o = over.each q in omega arith;
            all_rows = let o = over.all in omega arith;
            pairs = sym (rows_show_pairs d lays.new) ∙ (ap (λ (xs : List PartRow). map row_pair xs) lays.rows_are ∙ pairs);
            mode = mode;
            replies = replies;
          };
          chain_held = buffer.held;
          new_held = λ q some. either_held (tree_of e.deed) olds taken buffer.held (taken_held pool) q
              (let n = ap (times q) nums in let o = over.each q in omega arith);
          pool = pool;
          only = only;
        };
      };
      change_is = change_is ∙ ap (λ (n : ℕ). pos n) (sym long);
      licence = λ more. licence (omega arith);
    }

pub who_ends_buffer : WhoEndsBuffer
who_ends_buffer v tree owner count asked named olds given rows plan e change buffer lt interval other lays over pool only pairs now is pass
    change_is =
    let deed : Deed = Who tree asked named (others named asked (map row_pair rows)) in
    subst (λ (d : Deed). IsCommit v.plan v (record { pass = e.pass; txn = e.txn; deed = d }) plan change) (sym is)
    (laid_buffer_commits v owner count olds [] given rows plan (record { pass = e.pass; txn = e.txn; deed = deed }) change
    buffer lt interval lays over pool only pairs
    (subst IsTree (sym now) tt)
    (now ∙ sym (mode_for_other owner count named other))
    (ap (λ (ps : List Pair). Who tree asked named (others named asked ps)) (sym pairs))
    pass change_is
    (λ more. absurd (let a = over.all in omega arith)))

pub held_ask_ends_buffer : HeldAskEndsBuffer
held_ask_ends_buffer v tree owner count asked holder holders olds given rows plan e change buffer lt interval full lays over pool only pairs now held
    is pass change_is =
    let deed : Deed = Ask tree asked (HeldBy (holder ∷ holders)) in
    let ps : List Pair = buffered_pairs v owner olds in
    let by : others e.txn asked ps ≡ holder ∷ holders = ap (λ (xs : List Pair). others e.txn asked xs) (sym pairs) ∙ held in
    let after : after_ask v.plan.buffer e.txn asked (state owner count e.txn asked ps) ≡ record { pairs = ps; mode = TreeMode 0 } =
    asked_state owner count e.txn asked ps v.plan.buffer full
    ∙ ap (λ (os : List ℕ). record { pairs = pairs_by os e.txn asked ps; mode = TreeMode 0 }) by in
    subst (λ (d : Deed). IsCommit v.plan v (record { pass = e.pass; txn = e.txn; deed = d }) plan change) (sym is)
    (laid_buffer_commits v owner count olds [] given rows plan (record { pass = e.pass; txn = e.txn; deed = deed }) change
    buffer lt interval lays over pool only
    (pairs ∙ sym (ap (λ (t : TreeState). t.pairs) after))
    (subst IsTree (sym now) tt)
    (now ∙ sym (ap (λ (t : TreeState). t.mode) after))
    (ap (λ (r : Reply). Ask tree asked r) (asked_reply owner count e.txn asked ps v.plan.buffer full)
    ∙ ap (λ (os : List ℕ). Ask tree asked (reply_by os)) by)
    pass change_is
    (λ more. absurd (let a = over.all in omega arith)))

pub granted_ask_ends_buffer : GrantedAskEndsBuffer
granted_ask_ends_buffer v tree owner count asked olds taken given rows plan e change buffer lt interval full lays over pool only pairs now alone
    is pass change_is licence =
    let deed : Deed = Ask tree asked Granted in
    let ps : List Pair = buffered_pairs v owner olds in
    let after : after_ask v.plan.buffer e.txn asked (state owner count e.txn asked ps)
    ≡ record { pairs = granted e.txn asked ps; mode = TreeMode 0 } =
    asked_state owner count e.txn asked ps v.plan.buffer full
    ∙ ap (λ (os : List ℕ). record { pairs = pairs_by os e.txn asked ps; mode = TreeMode 0 }) alone in
    subst (λ (d : Deed). IsCommit v.plan v (record { pass = e.pass; txn = e.txn; deed = d }) plan change) (sym is)
    (laid_buffer_commits v owner count olds taken given rows plan (record { pass = e.pass; txn = e.txn; deed = deed }) change
    buffer lt interval lays over pool only
    (pairs ∙ sym (ap (λ (t : TreeState). t.pairs) after))
    (subst IsTree (sym now) tt)
    (now ∙ sym (ap (λ (t : TreeState). t.mode) after))
    (ap (λ (r : Reply). Ask tree asked r) (asked_reply owner count e.txn asked ps v.plan.buffer full)
    ∙ ap (λ (os : List ℕ). Ask tree asked (reply_by os)) alone)
    pass change_is licence)

pub free_ends_buffer : FreeEndsBuffer
free_ends_buffer v tree owner count asked first olds taken given rows plan e change buffer lt interval part lays over pool only pairs now is pass
    change_is licence =
    let ps : List Pair = buffered_pairs v owner olds in
    let deed : Deed = Free tree asked first (count_freed e.txn asked ps) in
    let after : after_free e.txn asked first (state owner count e.txn asked ps)
    ≡ record { pairs = freed e.txn asked ps; mode = raised first (TreeMode 0) } =
    freed_state owner count e.txn asked ps first part in
    subst (λ (d : Deed). IsCommit v.plan v (record { pass = e.pass; txn = e.txn; deed = d }) plan change) (sym is)
    (laid_buffer_commits v owner count olds taken given rows plan (record { pass = e.pass; txn = e.txn; deed = deed }) change
    buffer lt interval lays over pool only
    (pairs ∙ sym (ap (λ (t : TreeState). t.pairs) after))
    (subst IsTree (sym now) tt)
    (now ∙ sym (ap (λ (t : TreeState). t.mode) after))
    (ap (λ (n : ℕ). Free tree asked first n) (freed_number owner count e.txn asked ps part))
    pass change_is licence)

pub length-pairs : (rows : List PartRow) → length (map row_pair rows) ≡ length rows
length-pairs [] = refl
length-pairs (r ∷ rows) = ap (λ (n : ℕ). suc n) (length-pairs rows)

pub join_ends_buffer : JoinEndsBuffer
join_ends_buffer v tree owner count olds taken given rows plan e change buffer lt lays over pool only pairs now is pass change_is licence =
    let ps : List Pair = buffered_pairs v owner olds in
    let deed : Deed = Join tree (length ps) (length rows) in
    let long : length rows ≡ length (joined (setting_of v.plan).marks ps) = sym (length-pairs rows) ∙ ap length pairs in
    subst (λ (d : Deed). IsCommit v.plan v (record { pass = e.pass; txn = e.txn; deed = d }) plan change) (sym is)
    (laid_buffer_commits v owner count olds taken given rows plan (record { pass = e.pass; txn = e.txn; deed = deed }) change
    buffer lt tt lays over pool only pairs
    (subst IsTree (sym now) tt)
    now
    (ap (λ (n : ℕ). Join tree (length ps) n) (sym long))
    pass change_is licence)

pub chain_holds_buffer : ChainHoldsBuffer
chain_holds_buffer v tree rows h = record {
  mode = h.shows.buffer.2;
  chain = h.shows.chain;
  held = λ q some. let r = h.backs.keeps.held q some in row_held v q r.0 r.1;
}
