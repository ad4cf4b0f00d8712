-- The records as numbers in the lent room (`numbers` of rules, Replay): a store of one record, the stores of one slot, which bring the
-- room from time t to t + 1, and the totals read off it. Cited by the proofs of the replay, and by Returned in the crate theory.
use Rattle.std.specs.Prelude.{◌≡◌, Bool, true, false, List, [], ◌∷◌, ◌++◌, eqb, ltb, length, get_or, set}
use Rattle.std.proofs.Math.Path.{refl, ap}
use Rattle.std.proofs.Common.{sym, ◌∙◌, not-suc-le-zero, arith, lt-ltb, le-ltb}
use Prim.Native.Nat.{ℕ, zero, suc, ◌+◌, ◌*◌, ◌≤◌, ◌<◌}
use Rattle.std.proofs.Math.Decide.{dec_le}
use Rattle.rules.specs.Words.{pick, bit, sum, count_in, tab}
use Rattle.rules.specs.Limits.{max_tasks, record_width}
use Rattle.rules.specs.Case.{Case, release_count, name_of}
use Rattle.rules.specs.Replay.{finished_at, missed_at, demoted_at, Record, record_of, record_by, numbers, marked}
use Rattle.lists.specs.Lists.{tab_long, tab_at, tab_cong, tab-set}
use Rattle.lists.specs.Sums.{sum_cong, sum_head, sum_shift}
use Rattle.legal.specs.Legal.{Legal}
use Rattle.bridge.specs.Events.{event, entry, turn-event, turn_quiet}
use Rattle.bridge.specs.Turn.{last_place, Reached}

-- ---- three numbers a record
unfoldable pub put3 : List ℕ → ℕ → Record → List ℕ
put3 xs p r = set (set (set xs (p * record_width) r.verdict) (p * record_width + 1) r.finish) (p * record_width + 2) r.demotion

abbrev pub no_record : Record
no_record = record_of 0 0 0

pub numbers_long : (rs : List Record) → length (numbers rs) ≡ length rs * record_width
unfolding numbers
numbers_long [] = refl
numbers_long (r ∷ rs) = omega (arith, numbers_long rs)

-- the place of the next record
next_place : (p : ℕ) → suc p * record_width ≡ suc (suc (suc (p * record_width)))
next_place p = omega arith

next_plus : (p k : ℕ) → suc p * record_width + k ≡ suc (suc (suc (p * record_width + k)))
next_plus p k = omega arith

put3_at : (rs : List Record) (p : ℕ) (r : Record) (rest : List ℕ) → p < length rs
    → put3 (numbers rs ++ rest) p r ≡ numbers (set rs p r) ++ rest
unfolding put3 numbers
put3_at [] p r rest h = absurd (not-suc-le-zero h)
put3_at (x ∷ rs) zero r rest h = refl
put3_at (x ∷ rs) (suc p) r rest h =
    rw (next_plus p 2, next_plus p 1, next_place p)
    (ap (λ (l : List ℕ). x.verdict ∷ x.finish ∷ x.demotion ∷ l) (put3_at rs p r rest (omega arith)))

-- the record at place p of a room
abbrev pub record_at : List ℕ → ℕ → Record
record_at xs p = record_of (get_or xs (p * record_width) 0) (get_or xs (p * record_width + 1) 0) (get_or xs (p * record_width + 2) 0)

pub numbers_at : (rs : List Record) (p : ℕ) (rest : List ℕ) → p < length rs → record_at (numbers rs ++ rest) p ≡ get_or rs p no_record
unfolding numbers
numbers_at [] p rest h = absurd (not-suc-le-zero h)
numbers_at (x ∷ rs) zero rest h = refl
numbers_at (x ∷ rs) (suc p) rest h = rw (next_plus p 2, next_plus p 1, next_place p) (numbers_at rs p rest (omega arith))

-- the three numbers of release j in a room that holds the records of a case
module _ (f : ℕ → Record) (n : ℕ) (rest : List ℕ) (j : ℕ) (h : j < n) where
  pub held : record_at (numbers (tab f 0 n) ++ rest) j ≡ f j
  held = numbers_at (tab f 0 n) j rest (rw (tab_long f 0 n) h) ∙ tab_at f n j no_record h

  pub held_verdict : get_or (numbers (tab f 0 n) ++ rest) (j * record_width) 0 ≡ (f j).verdict
  held_verdict = ap (λ (r : Record). r.verdict) held

  pub held_finish : get_or (numbers (tab f 0 n) ++ rest) (j * record_width + 1) 0 ≡ (f j).finish
  held_finish = ap (λ (r : Record). r.finish) held

  pub held_demotion : get_or (numbers (tab f 0 n) ++ rest) (j * record_width + 2) 0 ≡ (f j).demotion
  held_demotion = ap (λ (r : Record). r.demotion) held

-- ---- what one slot stores, task by task: the sets that finished, were demoted and are removed as missed by the next step 1
abbrev pub event_at : List Bool → List Bool → List Bool → ℕ → Bool
event_at fin dem missed i = event (get_or fin i false) (get_or dem i false) (get_or missed i false)

unfoldable pub note_one : ℕ → List ℕ → List Bool → List Bool → List Bool → ℕ → List ℕ → List ℕ
note_one t place fin dem missed i xs =
    pick (event_at fin dem missed i)
    (put3 xs (get_or place i 0)
    (entry t (get_or fin i false) (get_or dem i false) (get_or missed i false) (get_or xs (get_or place i 0 * record_width + 2) 0))) xs

unfoldable pub note_to : ℕ → List ℕ → List Bool → List Bool → List Bool → ℕ → List ℕ → List ℕ
note_to t place fin dem missed zero xs = xs
note_to t place fin dem missed (suc i) xs = note_one t place fin dem missed i (note_to t place fin dem missed i xs)

-- where nothing happens to any job nothing is stored
pub noted_none : (t : ℕ) (place : List ℕ) (fin dem missed : List Bool) (n : ℕ) (xs : List ℕ)
    → ((i : ℕ) → i < n → event_at fin dem missed i ≡ false)
    → note_to t place fin dem missed n xs ≡ xs
unfolding note_to note_one
noted_none t place fin dem missed zero xs h = refl
noted_none t place fin dem missed (suc n) xs h = rw (h n (omega arith)) (noted_none t place fin dem missed n xs (λ i l. h i (omega arith)))

-- what is handed to the stores is what the slot of the case has
pub record Handed (c : Case) (t k : ℕ) (place : List ℕ) (fin dem missed : List Bool) : Type 0 where
  pub at_place : (i : ℕ) → i < max_tasks → get_or place i 0 ≡ last_place c.trace k (suc i)
  pub at_fin : (i : ℕ) → i < max_tasks → get_or fin i false ≡ finished_at c t i
  pub at_dem : (i : ℕ) → i < max_tasks → get_or dem i false ≡ demoted_at c t i
  pub at_missed : (i : ℕ) → i < max_tasks → get_or missed i false ≡ missed_at c (suc t) i

module _ (c : Case) (g : Legal c) (t k : ℕ) (w : Reached c.trace k (suc t)) (place : List ℕ) (fin dem missed : List Bool)
    (o : Handed c t k place fin dem missed) (rest : List ℕ) where
  abbrev n : ℕ
  n = release_count c.trace

  -- the records when the tasks below i have been noted
  abbrev mixed : ℕ → ℕ → Record
  mixed i j = pick (ltb (name_of c.trace j) (suc i)) (record_by c (suc t) j) (record_by c t j)

  mixed_new : (i j : ℕ) → name_of c.trace j ≤ i → mixed i j ≡ record_by c (suc t) j
  mixed_new i j h = rw (lt-ltb (name_of c.trace j) (suc i) (omega arith))

  mixed_old : (i j : ℕ) → i < name_of c.trace j → mixed i j ≡ record_by c t j
  mixed_old i j h = rw (le-ltb (name_of c.trace j) (suc i) (omega arith))

  -- from i to i + 1 only releases of task i may change
  mixed-more : (i j : ℕ) → (name_of c.trace j ≡ suc i → record_by c (suc t) j ≡ record_by c t j) → mixed i j ≡ mixed (suc i) j
  mixed-more i j h = go (dec_le (name_of c.trace j) i) (dec_le (name_of c.trace j) (suc i))
    where
      go : Dec (name_of c.trace j ≤ i) → Dec (name_of c.trace j ≤ suc i) → mixed i j ≡ mixed (suc i) j
      go (yes a) b = mixed_new i j a ∙ sym (mixed_new (suc i) j (omega arith))
      go (no a) (yes b) = mixed_old i j (omega arith) ∙ sym (h (omega arith)) ∙ sym (mixed_new (suc i) j b)
      go (no a) (no b) = mixed_old i j (omega arith) ∙ sym (mixed_old (suc i) j (omega arith))

  one : (i : ℕ) → i < max_tasks
      → note_one t place fin dem missed i (numbers (tab (mixed i) 0 n) ++ rest) ≡ numbers (tab (mixed (suc i)) 0 n) ++ rest
  unfolding note_one
  one i h =
      rw (o.at_place i h, o.at_fin i h, o.at_dem i h, o.at_missed i h)
      (go (event (finished_at c t i) (demoted_at c t i) (missed_at c (suc t) i)) refl)
    where
      p : ℕ
      p = last_place c.trace k (suc i)

      go : (b : Bool) → event (finished_at c t i) (demoted_at c t i) (missed_at c (suc t) i) ≡ b
          → pick b
          (put3 (numbers (tab (mixed i) 0 n) ++ rest) (last_place c.trace k (suc i))
          (entry t (finished_at c t i) (demoted_at c t i) (missed_at c (suc t) i)
          (get_or (numbers (tab (mixed i) 0 n) ++ rest) (last_place c.trace k (suc i) * record_width + 2) 0)))
          (numbers (tab (mixed i) 0 n) ++ rest)
          ≡ numbers (tab (mixed (suc i)) 0 n) ++ rest
      go false e =
          ap (λ (l : List Record). numbers l ++ rest)
          (tab_cong (mixed i) (mixed (suc i)) 0 n (λ j x y. mixed-more i j (turn_quiet c t i h g k w e j (omega arith))))
      go true e =
          let v = turn-event c t i h g k w e in
          let long : p < length (tab (mixed i) 0 n) = rw (tab_long (mixed i) 0 n) v.within in
          let new : entry t (finished_at c t i) (demoted_at c t i) (missed_at c (suc t) i) (record_by c t p).demotion ≡ mixed (suc i) p =
          sym v.new ∙ sym (mixed_new (suc i) p (omega (arith, v.its)))
          in
          let xs = numbers (tab (mixed i) 0 n) ++ rest in
          let d : get_or xs (p * record_width + 2) 0 ≡ (record_by c t p).demotion =
          held_demotion (mixed i) n rest p v.within ∙ ap (λ (r : Record). r.demotion) (mixed_old i p (omega (arith, v.its))) in
          ap (λ (x : ℕ). put3 xs p (entry t (finished_at c t i) (demoted_at c t i) (missed_at c (suc t) i) x)) d ∙
          ap (put3 xs p) new ∙ put3_at (tab (mixed i) 0 n) p (mixed (suc i) p) rest long ∙
          ap (λ (l : List Record). numbers l ++ rest) (tab-set (mixed i) (mixed (suc i)) n p v.within
          (λ j x y. mixed-more i j (λ q. v.others j x q y)))

  all_to : (i : ℕ) → i ≤ max_tasks
      → note_to t place fin dem missed i (numbers (tab (mixed 0) 0 n) ++ rest) ≡ numbers (tab (mixed i) 0 n) ++ rest
  unfolding note_to
  all_to zero h = refl
  all_to (suc i) h = ap (note_one t place fin dem missed i) (all_to i (omega arith)) ∙ one i (omega arith)

  -- the stores of the slot at t bring the records as they stand at t to those as they stand at t + 1
  pub noted_all : note_to t place fin dem missed max_tasks (numbers (tab (record_by c t) 0 n) ++ rest)
      ≡ numbers (tab (record_by c (suc t)) 0 n) ++ rest
  noted_all =
      ap (λ (l : List Record). note_to t place fin dem missed max_tasks (numbers l ++ rest))
      (tab_cong (record_by c t) (mixed 0) 0 n (λ j x y. sym (mixed_old 0 j (omega (arith, g.named j (omega arith)))))) ∙
      all_to max_tasks (omega arith) ∙
      ap (λ (l : List Record). numbers l ++ rest)
      (tab_cong (mixed max_tasks) (record_by c (suc t)) 0 n
      (λ j x y. mixed_new max_tasks j (omega (arith, g.named j (omega arith), g.tasks_few))))

-- ---- totals read off the room
pub marked_in : (v : ℕ) (rs : List Record) (rest : List ℕ)
    → count_in (λ j. eqb (get_or (numbers rs ++ rest) (j * record_width) 0) v) 0 (length rs) ≡ marked v rs
unfolding numbers marked sum
marked_in v [] rest = refl
marked_in v (x ∷ rs) rest =
    let mark : ℕ → ℕ = λ j. bit (eqb (get_or (numbers (x ∷ rs) ++ rest) (j * record_width) 0) v) in
    sum_head mark 0 (length rs) ∙
    ap (λ (z : ℕ). bit (eqb x.verdict v) + z)
    (sum_shift mark 0 (length rs) ∙
    sum_cong (λ j. mark (suc j)) (λ j. bit (eqb (get_or (numbers rs ++ rest) (j * record_width) 0) v)) 0 (length rs)
    (λ j p q. rw (next_place j)) ∙ marked_in v rs rest)
