-- A line of a log read byte by byte, in a state that does not grow: what is left of the word, the time, and of the tasks the least number
-- that would rise, whether they rise and are tasks, and their set; or what was heard before a return. At its end it has heard what
-- `slot_says` of rules, Log, says: of its fields by LineHeard, with its return by Returned. For Feed.
use Rattle.std.specs.Prelude.{Option, Some, None}
use Rattle.std.specs.Prelude.{◌≡◌, refl, Bool, true, false, ◌&&◌, List, [], ◌∷◌, ◌++◌, ℕ, eqb}
use Rattle.std.proofs.Common.{sym, ap, ◌∙◌}
use Rattle.rules.specs.Words.{pick}
use Rattle.rules.specs.Slot.{TaskSet}
use Rattle.rules.specs.Text.{return_byte, tab_byte, same, has}
use Rattle.lists.specs.Lists.{picked}
use Rattle.texts.specs.Fields.{without_head}
use Rattle.feeds.specs.NumScan.{NumScan, num_bad, num_so_far, num_byte, num_all, num_end, num_bad_lem}
use Rattle.feeds.specs.LineScan.{unread, wrong, in_word, in_time, in_task, returned, LineScan, at_start, time_at, task_at, after_time}
use Rattle.feeds.specs.LineScan.{after_task, field_byte, field_all, heard_bad, heard, Heard, heard_time, heard_task, line_end, after_return}
use Rattle.feeds.specs.LineScan.{at_return, scan_byte, scan_all}

-- ---- scanning in two parts
pub fields_append : (x : LineScan) (a b : List ℕ) → field_all x (a ++ b) ≡ field_all (field_all x a) b
unfolding field_all
fields_append x [] b = refl
fields_append x (c ∷ a) b = fields_append (field_byte x c) a b

wrong_stays : (s : List ℕ) → field_all wrong s ≡ wrong
unfolding field_all field_byte
wrong_stays [] = refl
wrong_stays (b ∷ s) = wrong_stays s

pub wrong_ends : (s : List ℕ) → line_end (field_all wrong s) ≡ heard_bad
unfolding line_end
wrong_ends s = rw (wrong_stays s)

-- a byte that was read is no start
field_begun : (x : LineScan) (b : ℕ) → at_start (field_byte x b) ≡ false
unfolding field_byte
field_begun unread b = picked (λ y. at_start y ≡ false) (eqb b tab_byte) _ _ (λ e. refl)
    (λ e. picked (λ y. at_start y ≡ false) (eqb b 115) _ _ (λ q. refl) (λ q. refl))
field_begun wrong b = refl
field_begun (in_word []) b = picked (λ y. at_start y ≡ false) (eqb b tab_byte) _ _ (λ e. refl) (λ e. refl)
field_begun (in_word (x ∷ xs)) b = picked (λ y. at_start y ≡ false) (eqb b tab_byte) _ _ (λ e. refl)
    (λ e. picked (λ y. at_start y ≡ false) (eqb b x) _ _ (λ q. refl) (λ q. refl))
field_begun (in_time k v) b = picked (λ y. at_start y ≡ false) (eqb b tab_byte) _ _ (λ e. go (num_end (num_so_far k v)))
    (λ e. at (num_byte (num_so_far k v) b))
  where
    go : (n : Option ℕ) → at_start (after_time n) ≡ false
    go None = refl
    go (Some v) = refl

    at : (x : NumScan) → at_start (time_at x) ≡ false
    at num_bad = refl
    at (num_so_far k v) = refl
field_begun (in_task t low rises names set k v) b =
    picked (λ y. at_start y ≡ false) (eqb b tab_byte) _ _ (λ e. go (num_end (num_so_far k v))) (λ e. at (num_byte (num_so_far k v) b))
  where
    go : (n : Option ℕ) → at_start (after_task t low rises names set n) ≡ false
    go None = refl
    go (Some v) = refl

    at : (x : NumScan) → at_start (task_at t low rises names set x) ≡ false
    at num_bad = refl
    at (num_so_far k v) = refl
field_begun (returned t rises names set) b = refl

after_begun : (h : Heard) → at_start (after_return h) ≡ false
after_begun heard_bad = refl
after_begun (heard t rises names set) = refl

return_begun : (x : LineScan) → at_start (at_return x) ≡ false
unfolding at_return
return_begun unread = refl
return_begun wrong = refl
return_begun (in_word ws) = refl
return_begun (in_time k v) = after_begun (heard_time (num_end (num_so_far k v)))
return_begun (in_task t low rises names set k v) = after_begun (heard_task t low rises names set (num_end (num_so_far k v)))
return_begun (returned t rises names set) = refl

pub begun : (x : LineScan) (b : ℕ) → at_start (scan_byte x b) ≡ false
unfolding scan_byte
begun x b = picked (λ y. at_start y ≡ false) (eqb b return_byte) _ _ (λ e. return_begun x) (λ e. field_begun x b)

pub begun_all : (s : List ℕ) (x : LineScan) → at_start x ≡ false → at_start (scan_all x s) ≡ false
unfolding scan_all
begun_all [] x e = e
begun_all (b ∷ s) x e = begun_all s (scan_byte x b) (begun x b)

-- ---- a field without a tab
pub time_field : (f : List ℕ) (x : NumScan) → has tab_byte f ≡ false → field_all (time_at x) f ≡ time_at (num_all x f)
unfolding field_all field_byte num_all
time_field [] x h = refl
time_field (b ∷ f) num_bad h = wrong_stays (b ∷ f) ∙ ap time_at (sym (num_bad_lem (b ∷ f)))
time_field (b ∷ f) (num_so_far k v) h = let w = without_head tab_byte b f h in rw w.0 (time_field f (num_byte (num_so_far k v) b) w.1)

pub task_field : (t low : ℕ) (rises names : Bool) (set : TaskSet) (f : List ℕ) (x : NumScan) → has tab_byte f ≡ false
    → field_all (task_at t low rises names set x) f ≡ task_at t low rises names set (num_all x f)
unfolding field_all field_byte num_all
task_field t low rises names set [] x h = refl
task_field t low rises names set (b ∷ f) num_bad h = wrong_stays (b ∷ f) ∙ ap (task_at t low rises names set) (sym (num_bad_lem (b ∷ f)))
task_field t low rises names set (b ∷ f) (num_so_far k v) h =
    let w = without_head tab_byte b f h in
    rw w.0 (task_field t low rises names set f (num_byte (num_so_far k v) b) w.1)

-- at the end of the field, or at a tab, its number is what counts
pub time_end : (x : NumScan) → line_end (time_at x) ≡ heard_time (num_end x)
unfolding line_end num_end
time_end num_bad = refl
time_end (num_so_far k v) = refl

pub task_end : (t low : ℕ) (rises names : Bool) (set : TaskSet) (x : NumScan)
    → line_end (task_at t low rises names set x) ≡ heard_task t low rises names set (num_end x)
unfolding line_end num_end
task_end t low rises names set num_bad = refl
task_end t low rises names set (num_so_far k v) = refl

pub time_over : (x : NumScan) → field_byte (time_at x) tab_byte ≡ after_time (num_end x)
unfolding field_byte num_end
time_over num_bad = refl
time_over (num_so_far k v) = refl

pub task_over : (t low : ℕ) (rises names : Bool) (set : TaskSet) (x : NumScan)
    → field_byte (task_at t low rises names set x) tab_byte ≡ after_task t low rises names set (num_end x)
unfolding field_byte num_end
task_over t low rises names set num_bad = refl
task_over t low rises names set (num_so_far k v) = refl

-- the word is read: a tab behind it begins the time
pub word_tab_lem : (f ws : List ℕ) → has tab_byte f ≡ false → field_byte (field_all (in_word ws) f) tab_byte
    ≡ pick (same f ws) (in_time 0 0) wrong
unfolding field_all field_byte same
word_tab_lem [] [] h = refl
word_tab_lem [] (x ∷ xs) h = refl
word_tab_lem (b ∷ f) [] h = let w = without_head tab_byte b f h in rw (w.0, wrong_stays f)
word_tab_lem (b ∷ f) (x ∷ xs) h = let w = without_head tab_byte b f h in rw w.0 (go (eqb b x) (word_tab_lem f xs w.1))
  where
    go : (e : Bool) → field_byte (field_all (in_word xs) f) tab_byte ≡ pick (same f xs) (in_time 0 0) wrong
        → field_byte (field_all (pick e (in_word xs) wrong) f) tab_byte ≡ pick (e && same f xs) (in_time 0 0) wrong
    go true q = q
    go false q = unfold field_byte in rw (wrong_stays f)

pub word_ends : (f ws : List ℕ) → has tab_byte f ≡ false → line_end (field_all (in_word ws) f) ≡ heard_bad
unfolding field_all field_byte line_end
word_ends [] ws h = refl
word_ends (b ∷ f) [] h = let w = without_head tab_byte b f h in rw w.0 (wrong_ends f)
word_ends (b ∷ f) (x ∷ xs) h =
    let w = without_head tab_byte b f h in
    rw w.0 (picked (λ y. line_end (field_all y f) ≡ heard_bad) (eqb b x) (in_word xs) wrong (λ e. word_ends f xs w.1)
    (λ e. wrong_ends f))
