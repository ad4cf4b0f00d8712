-- What is heard of the fields of a line, read byte by byte (LineScan), is what `slot_says` of rules, Log, says of them. For Returned.
use Rattle.std.specs.Prelude.{Option, Some, None}
use Rattle.std.specs.Prelude.{◌≡◌, Bool, ◌&&◌, ◌||◌, ℕ, zero, suc, ◌≤◌, ◌<◌, eqb, ltb}
use Rattle.std.proofs.Math.Path.{refl, ap, fun_ext}
use Rattle.std.proofs.Common.{sym, ◌∙◌, arith, le-leb, lt-ltb, le-ltb}
use Rattle.std.proofs.Math.Bool.{true, false, and-false}
use Rattle.std.proofs.lemmas.Bool.{lt-leb}
use mathlib.Core.List.{List, [], ◌∷◌}
use Rattle.std.proofs.Math.Decide.{dec_lt}
use Rattle.std.proofs.Math.Dec.{leb}
use Rattle.std.proofs.Math.ListN.{length}
use Rattle.rules.specs.Words.{pick}
use Rattle.rules.specs.Limits.{max_tasks}
use Rattle.rules.specs.Slot.{TaskSet}
use Rattle.rules.specs.Text.{tab_byte, same, has, field_of, after_field, number_in}
use Rattle.rules.specs.Log.{LogLine, bad_line, slot_word, fields_in, fields_of, with_value, with_numbers, time_and_tasks, slot_fields}
use Rattle.rules.specs.Log.{slot_says, rise_past, rising, set_named, name_tasks}
use Rattle.lists.specs.Lists.{picked}
use Rattle.texts.specs.Fields.{up_to_without, cut_at, past_less}
use Rattle.feeds.specs.Alike.{within}
use Rattle.feeds.specs.NumScan.{num_start, num_all, num_scanned}
use Rattle.feeds.specs.LineScan.{LineScan, unread, wrong, in_word, in_time, in_task, is_name, with_name, after_time, after_task}
use Rattle.feeds.specs.LineScan.{field_byte, field_all, heard_bad, heard, heard_time, heard_task, line_end, hears}
use Rattle.feeds.proofs.LineScan.{fields_append}
use Rattle.feeds.proofs.LineScan.{wrong_ends, time_field, task_field, time_end, task_end, time_over, task_over, word_tab_lem}
use Rattle.feeds.proofs.LineScan.{word_ends}
use Rattle.feeds.specs.LineHeard.{with_heard, hear_numbers, heard_tasks, heard_all, rises_from}

hears-numbers : (fs : List (List ℕ)) (say : List ℕ → LogLine) → hears (with_numbers fs say)
    ≡ hear_numbers fs (λ vs. hears (say vs))
unfolding with_numbers hear_numbers
hears-numbers [] say = refl
hears-numbers (f ∷ fs) say = go (number_in f) (λ v. hears-numbers fs (λ vs. say (v ∷ vs)))
  where
    go : (n : Option ℕ) → ((v : ℕ) → hears (with_numbers fs (λ vs. say (v ∷ vs))) ≡ hear_numbers fs (λ vs. hears (say (v ∷ vs))))
        → hears (with_value n (λ v. with_numbers fs (λ vs. say (v ∷ vs))))
        ≡ with_heard n (λ v. hear_numbers fs (λ vs. hears (say (v ∷ vs))))
    go None more = unfold hears in refl
    go (Some v) more = more v

ltb_leb : (a b : ℕ) → ltb a b ≡ leb (suc a) b
ltb_leb a b = go (dec_lt a b)
  where
    go : Dec (a < b) → ltb a b ≡ leb (suc a) b
    go (yes h) = lt-ltb a b h ∙ sym (le-leb (suc a) b h)
    go (no h) = le-ltb a b (omega arith) ∙ sym (lt-leb (suc a) b (omega arith))

past_from : (n : ℕ) (ns : List ℕ) → rise_past n ns ≡ rises_from (suc n) ns
unfolding rise_past rises_from
past_from n [] = refl
past_from n (k ∷ ks) = rw (ltb_leb n k, past_from k ks)

rising_from : (ns : List ℕ) → rising ns ≡ rises_from 0 ns
unfolding rising rises_from
rising_from [] = refl
rising_from (n ∷ ns) = rw (le-leb 0 n (omega arith)) (past_from n ns)

and-true : (a : Bool) → (a && true) ≡ a
and-true true = refl
and-true false = refl

and_assoc : (a b c : Bool) → (a && b && c) ≡ (a && (b && c))
and_assoc true b c = refl
and_assoc false b c = refl

or_none : (a : Bool) → (a || false) ≡ a
or_none true = refl
or_none false = refl

or-within : (a b c l : Bool) → (a || (b && l) || (c && l)) ≡ (a || ((b || c) && l))
or-within true b c l = refl
or-within false true c true = refl
or-within false true c false = and-false c
or-within false false c l = refl

heard_same : (t : ℕ) (a b x y : Bool) (r s : TaskSet) → a ≡ b → x ≡ y → r ≡ s → heard t a x r ≡ heard t b y s
heard_same t a b x y r s p q z = rw (p, q, z)

heard_tasks_lem : (t low : ℕ) (rises names : Bool) (set : TaskSet) (ns : List ℕ)
    → heard_tasks t low rises names set ns ≡ heard t (rises && rises_from low ns) (names && name_tasks ns)
    (λ i. set i || within (set_named ns) i)
unfolding heard_tasks rises_from name_tasks set_named
heard_tasks_lem t low rises names set [] =
    heard_same t rises (rises && true) names (names && true) set (λ i. set i || (false && ltb i max_tasks)) (sym (and-true rises))
    (sym (and-true names)) (fun_ext (λ i. sym (or_none (set i))))
heard_tasks_lem t low rises names set (v ∷ vs) =
    heard_tasks_lem t (suc v) (rises && leb low v) (names && is_name v) (with_name set v) vs
    ∙ heard_same t _ _ _ _ _ _ (and_assoc rises (leb low v) (rises_from (suc v) vs)) (and_assoc names (is_name v) (name_tasks vs))
    (fun_ext (λ i. or-within (set i) (eqb v (suc i)) (set_named vs i) (ltb i max_tasks)))

heard_all_lem : (vs : List ℕ) → heard_all vs ≡ hears (time_and_tasks vs)
unfolding heard_all hears set_named
heard_all_lem [] = refl
heard_all_lem (t ∷ ns) = heard_tasks_lem t 0 true true (set_named []) ns ∙ rw (rising_from ns)

-- ---- fields of numbers, read byte by byte
module _ (t low : ℕ) (rises names : Bool) (set : TaskSet) where
  -- the last task of a line
  task_last : (s : List ℕ) → has tab_byte s ≡ false
      → line_end (field_all (in_task t low rises names set 0 0) s)
      ≡ with_heard (number_in s) (λ v. heard_tasks t low rises names set (v ∷ []))
  unfolding line_end heard_tasks
  task_last s h = ap line_end (task_field t low rises names set s num_start h) ∙ task_end t low rises names set (num_all num_start s)
      ∙ ap (heard_task t low rises names set) (num_scanned s) ∙ go (number_in s)
    where
      go : (n : Option ℕ) → heard_task t low rises names set n ≡ with_heard n (λ v. heard_tasks t low rises names set (v ∷ []))
      go None = refl
      go (Some v) = unfold heard_tasks in refl

  -- a task with a tab behind it
  task_tab : (f : List ℕ) → has tab_byte f ≡ false → field_byte (field_all (in_task t low rises names set 0 0) f) tab_byte
      ≡ after_task t low rises names set (number_in f)
  unfolding field_byte
  task_tab f h = ap (λ (x : LineScan). field_byte x tab_byte) (task_field t low rises names set f num_start h)
      ∙ task_over t low rises names set (num_all num_start f) ∙ ap (after_task t low rises names set) (num_scanned f)

-- the last field that is a time
time_last : (s : List ℕ) → has tab_byte s ≡ false → line_end (field_all (in_time 0 0) s)
    ≡ with_heard (number_in s) (λ v. heard_all (v ∷ []))
unfolding line_end
time_last s h = ap line_end (time_field s num_start h) ∙ time_end (num_all num_start s) ∙ ap heard_time (num_scanned s) ∙ go (number_in s)
  where
    go : (n : Option ℕ) → heard_time n ≡ with_heard n (λ v. heard_all (v ∷ []))
    go None = refl
    go (Some v) = unfold heard_all heard_tasks in refl

time_tab : (f : List ℕ) → has tab_byte f ≡ false → field_byte (field_all (in_time 0 0) f) tab_byte ≡ after_time (number_in f)
unfolding field_byte
time_tab f h = ap (λ (x : LineScan). field_byte x tab_byte) (time_field f num_start h) ∙ time_over (num_all num_start f)
    ∙ ap after_time (num_scanned f)

-- a state goes through a text with a tab: through the field, the tab, and what follows
through : (x : LineScan) (s : List ℕ) → has tab_byte s ≡ true → field_all x s ≡ field_all (field_byte (field_all x (field_of s)) tab_byte)
    (after_field s)
unfolding field_of after_field field_all
through x s h = ap (field_all x) (sym (cut_at tab_byte s h)) ∙ fields_append x (field_of s) (tab_byte ∷ after_field s)

scan_tasks : (k : ℕ) (s : List ℕ) → length s ≤ k → (t low : ℕ) (rises names : Bool) (set : TaskSet)
    → line_end (field_all (in_task t low rises names set 0 0) s) ≡ hear_numbers (fields_in k s) (heard_tasks t low rises names set)
unfolding fields_in hear_numbers
scan_tasks zero [] h t low rises names set = task_last t low rises names set [] (unfold has in refl)
scan_tasks zero (b ∷ s) h t low rises names set = absurd (omega arith)
scan_tasks (suc k) [] h t low rises names set = unfold has in task_last t low rises names set [] refl
scan_tasks (suc k) (b ∷ s) h t low rises names set =
    go (has tab_byte (b ∷ s)) refl (scan_tasks k (after_field (b ∷ s)) (unfold after_field in omega (arith, past_less tab_byte b s)))
  where
    go : (e : Bool) → has tab_byte (b ∷ s) ≡ e
        → ((t low : ℕ) (rises names : Bool) (set : TaskSet)
        → line_end (field_all (in_task t low rises names set 0 0) (after_field (b ∷ s)))
        ≡ hear_numbers (fields_in k (after_field (b ∷ s))) (heard_tasks t low rises names set))
        → line_end (field_all (in_task t low rises names set 0 0) (b ∷ s))
        ≡ hear_numbers (pick e (field_of (b ∷ s) ∷ fields_in k (after_field (b ∷ s))) ((b ∷ s) ∷ []))
        (heard_tasks t low rises names set)
    go false e more = unfold hear_numbers in task_last t low rises names set (b ∷ s) e
    go true e more =
        ap line_end (through (in_task t low rises names set 0 0) (b ∷ s) e)
        ∙ ap (λ (x : LineScan). line_end (field_all x (after_field (b ∷ s))))
        (task_tab t low rises names set (field_of (b ∷ s)) (unfold field_of in up_to_without tab_byte (b ∷ s)))
        ∙ (unfold hear_numbers heard_tasks in next (number_in (field_of (b ∷ s))))
      where
        next : (n : Option ℕ) → line_end (field_all (after_task t low rises names set n) (after_field (b ∷ s)))
            ≡ with_heard n (λ v. hear_numbers (fields_in k (after_field (b ∷ s))) (λ vs. heard_tasks t low rises names set (v ∷ vs)))
        next None = wrong_ends (after_field (b ∷ s))
        next (Some v) = unfold heard_tasks in more t (suc v) (rises && leb low v) (names && is_name v) (with_name set v)

scan_time : (k : ℕ) (s : List ℕ) → length s ≤ k → line_end (field_all (in_time 0 0) s) ≡ hear_numbers (fields_in k s) heard_all
unfolding fields_in hear_numbers
scan_time zero [] h = time_last [] (unfold has in refl)
scan_time zero (b ∷ s) h = absurd (omega arith)
scan_time (suc k) [] h = unfold has in time_last [] refl
scan_time (suc k) (b ∷ s) h = go (has tab_byte (b ∷ s)) refl (unfold after_field in omega (arith, past_less tab_byte b s))
  where
    go : (e : Bool) → has tab_byte (b ∷ s) ≡ e → length (after_field (b ∷ s)) ≤ k
        → line_end (field_all (in_time 0 0) (b ∷ s))
        ≡ hear_numbers (pick e (field_of (b ∷ s) ∷ fields_in k (after_field (b ∷ s))) ((b ∷ s) ∷ [])) heard_all
    go false e l = unfold hear_numbers in time_last (b ∷ s) e
    go true e l =
        ap line_end (through (in_time 0 0) (b ∷ s) e)
        ∙ ap (λ (x : LineScan). line_end (field_all x (after_field (b ∷ s))))
        (time_tab (field_of (b ∷ s)) (unfold field_of in up_to_without tab_byte (b ∷ s)))
        ∙ (unfold hear_numbers heard_all in next (number_in (field_of (b ∷ s))))
      where
        next : (n : Option ℕ) → line_end (field_all (after_time n) (after_field (b ∷ s)))
            ≡ with_heard n (λ v. hear_numbers (fields_in k (after_field (b ∷ s))) (λ vs. heard_all (v ∷ vs)))
        next None = wrong_ends (after_field (b ∷ s))
        next (Some v) = unfold heard_all in scan_tasks k (after_field (b ∷ s)) l v 0 true true (set_named [])

-- ---- the whole line
-- fields of numbers are heard as what they say
time_says : (k : ℕ) (s : List ℕ) → length s ≤ k → line_end (field_all (in_time 0 0) s)
    ≡ hears (with_numbers (fields_in k s) time_and_tasks)
time_says k s h = scan_time k s h ∙ ap (hear_numbers (fields_in k s)) (fun_ext heard_all_lem)
    ∙ sym (hears-numbers (fields_in k s) time_and_tasks)

-- what is heard of them is what they say
pub fields_heard : (s : List ℕ) → line_end (field_all unread s) ≡ hears (slot_says s)
unfolding slot_says fields_of fields_in
fields_heard [] = unfold field_all line_end hears same in refl
fields_heard (b ∷ s) = start ∙ go (has tab_byte (b ∷ s)) refl (unfold after_field in omega (arith, past_less tab_byte b s))
  where
    start : line_end (field_all unread (b ∷ s)) ≡ line_end (field_all (in_word slot_word) (b ∷ s))
    start = unfold field_all field_byte in refl

    go : (e : Bool) → has tab_byte (b ∷ s) ≡ e → length (after_field (b ∷ s)) ≤ length s
        → line_end (field_all (in_word slot_word) (b ∷ s))
        ≡ hears (slot_fields (pick e (field_of (b ∷ s) ∷ fields_in (length s) (after_field (b ∷ s))) ((b ∷ s) ∷ [])))
    go false e l = word_ends (b ∷ s) slot_word e
        ∙ (unfold with_numbers in picked (λ x. heard_bad ≡ hears x) (same (b ∷ s) slot_word) bad_line bad_line
        (λ q. unfold hears in refl) (λ q. unfold hears in refl))
    go true e l =
        ap line_end (through (in_word slot_word) (b ∷ s) e)
        ∙ ap (λ (x : LineScan). line_end (field_all x (after_field (b ∷ s))))
        (word_tab_lem (field_of (b ∷ s)) slot_word (unfold field_of in up_to_without tab_byte (b ∷ s)))
        ∙ next (same (field_of (b ∷ s)) slot_word)
      where
        next : (w : Bool) → line_end (field_all (pick w (in_time 0 0) wrong) (after_field (b ∷ s)))
            ≡ hears (pick w (with_numbers (fields_in (length s) (after_field (b ∷ s))) time_and_tasks) bad_line)
        next true = time_says (length s) (after_field (b ∷ s)) l
        next false = unfold hears in wrong_ends (after_field (b ∷ s))
