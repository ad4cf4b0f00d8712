-- What is heard of a line at its newline, its return scanned with it (`scan_all` of LineScan), is what `slot_says` of rules, Log, says of
-- what the line finder hands back. A return behind the fields changes nothing in what is heard; one anywhere else makes the line wrong. For
-- Feed.
use Rattle.std.specs.Prelude.{Option, Some, None}
use Rattle.std.specs.Prelude.{◌≡◌, Bool, true, ◌&&◌, List, [], ◌∷◌, ◌++◌, ℕ, eqb}
use Rattle.std.proofs.Math.Path.{refl, ap}
use Rattle.std.proofs.Common.{sym, ◌∙◌, ne_eqb, eqb-true}
use Rattle.std.proofs.Math.Bool.{false}
use Rattle.std.proofs.lemmas.Bool.{eqb-false}
use Rattle.rules.specs.Words.{pick}
use Rattle.rules.specs.Text.{newline_byte, return_byte, tab_byte, has, line_return, line_of}
use Rattle.rules.specs.Log.{slot_word, slot_says}
use Rattle.lists.specs.Lists.{picked}
use Rattle.texts.specs.Fields.{without_head}
use Rattle.feeds.specs.NumScan.{NumScan, num_bad, num_so_far, num_byte, num_end}
use Rattle.feeds.specs.LineScan.{LineScan, unread, wrong, in_word, in_time, in_task, returned, time_at, task_at, after_time, after_task}
use Rattle.feeds.specs.LineScan.{word_tab, word_byte, field_byte, field_all, Heard, heard_bad, heard, heard_time, heard_task, line_end}
use Rattle.feeds.specs.LineScan.{hears}
use Rattle.feeds.specs.LineScan.{after_return, at_return, scan_byte, scan_all}
use Rattle.feeds.proofs.LineScan.{wrong_ends}
use Rattle.feeds.proofs.LineHeard.{fields_heard}

-- ---- a state within the fields of a line: no return came yet, and none stands in what is left of the word
abbrev pub Reads : LineScan → Type 0
Reads unread = Unit {0}
Reads wrong = Unit {0}
Reads (in_word ws) = has return_byte ws ≡ false
Reads (in_time k v) = Unit {0}
Reads (in_task t low rises names set k v) = Unit {0}
Reads (returned t rises names set) = ⊥

reads_word : (ws : List ℕ) (b : ℕ) → has return_byte ws ≡ false → Reads (pick (eqb b tab_byte) (word_tab ws) (word_byte ws b))
reads_word [] b h = picked Reads (eqb b tab_byte) _ _ (λ e. tt) (λ e. tt)
reads_word (x ∷ xs) b h = picked Reads (eqb b tab_byte) _ _ (λ e. tt)
    (λ e. picked Reads (eqb b x) _ _ (λ q. (without_head return_byte x xs h).1) (λ q. tt))

-- it stays so
reads_on : (x : LineScan) (b : ℕ) → Reads x → Reads (field_byte x b)
unfolding field_byte has
reads_on unread b h = reads_word slot_word b refl
reads_on wrong b h = tt
reads_on (in_word ws) b h = reads_word ws b h
reads_on (in_time k v) b h = picked Reads (eqb b tab_byte) _ _ (λ e. go (num_end (num_so_far k v))) (λ e. at (num_byte (num_so_far k v) b))
  where
    go : (n : Option ℕ) → Reads (after_time n)
    go None = tt
    go (Some v) = tt

    at : (x : NumScan) → Reads (time_at x)
    at num_bad = tt
    at (num_so_far k v) = tt
reads_on (in_task t low rises names set k v) b h =
    picked Reads (eqb b tab_byte) _ _ (λ e. go (num_end (num_so_far k v))) (λ e. at (num_byte (num_so_far k v) b))
  where
    go : (n : Option ℕ) → Reads (after_task t low rises names set n)
    go None = tt
    go (Some v) = tt

    at : (x : NumScan) → Reads (task_at t low rises names set x)
    at num_bad = tt
    at (num_so_far k v) = tt
reads_on (returned t rises names set) b h = absurd h

-- ---- a return that belongs to the fields is wrong
return_wrong : (x : LineScan) → Reads x → field_byte x return_byte ≡ wrong
unfolding field_byte num_byte has
return_wrong unread h = refl
return_wrong wrong h = refl
return_wrong (in_word []) h = refl
return_wrong (in_word (w ∷ ws)) h =
    rw (ne_eqb return_byte w (λ e. eqb-false w return_byte (without_head return_byte w ws h).0 (sym e)))
return_wrong (in_time k v) h = refl
return_wrong (in_task t low rises names set k v) h = refl
return_wrong (returned t rises names set) h = absurd h

-- ---- a return behind them: what is heard stays
after_ends : (h : Heard) → line_end (after_return h) ≡ h
unfolding line_end
after_ends heard_bad = refl
after_ends (heard t rises names set) = refl

return_ends : (x : LineScan) → Reads x → line_end (at_return x) ≡ line_end x
unfolding line_end at_return
return_ends unread h = refl
return_ends wrong h = refl
return_ends (in_word ws) h = refl
return_ends (in_time k v) h = after_ends (heard_time (num_end (num_so_far k v)))
return_ends (in_task t low rises names set k v) h = after_ends (heard_task t low rises names set (num_end (num_so_far k v)))
return_ends (returned t rises names set) h = absurd h

-- and with another byte behind it than the newline the line is wrong
after_lost : (h : Heard) (d : ℕ) → scan_byte (after_return h) d ≡ wrong
unfolding scan_byte at_return field_byte
after_lost heard_bad d = picked (λ x. x ≡ wrong) (eqb d return_byte) wrong wrong (λ e. refl) (λ e. refl)
after_lost (heard t rises names set) d = picked (λ x. x ≡ wrong) (eqb d return_byte) wrong wrong (λ e. refl) (λ e. refl)

return_lost : (x : LineScan) (d : ℕ) → scan_byte (at_return x) d ≡ wrong
unfolding at_return
return_lost unread d = after_lost heard_bad d
return_lost wrong d = after_lost heard_bad d
return_lost (in_word ws) d = after_lost heard_bad d
return_lost (in_time k v) d = after_lost (heard_time (num_end (num_so_far k v))) d
return_lost (in_task t low rises names set k v) d = after_lost (heard_task t low rises names set (num_end (num_so_far k v))) d
return_lost (returned t rises names set) d = after_lost heard_bad d

lost_stays : (s : List ℕ) → scan_all wrong s ≡ wrong
unfolding scan_all
lost_stays [] = refl
lost_stays (b ∷ s) = rw (after_lost heard_bad b) (lost_stays s)

-- ---- the whole line
-- a return with another byte behind it
return_within : (d : ℕ) (l rest : List ℕ) (x : LineScan) → Reads x → eqb d newline_byte ≡ false
    → line_end (scan_all x (return_byte ∷ d ∷ l)) ≡ line_end (field_all x (line_of (return_byte ∷ d ∷ (l ++ (newline_byte ∷ rest)))))
return_within d l rest x r h = lost ∙ sym (ap (λ (s : List ℕ). line_end (field_all x s)) on ∙ bad _)
  where
    lost : line_end (scan_all x (return_byte ∷ d ∷ l)) ≡ heard_bad
    lost = unfold scan_all scan_byte line_end in
        (ap (λ (y : LineScan). line_end (scan_all y l)) (return_lost x d) ∙ ap line_end (lost_stays l))

    on : line_of (return_byte ∷ d ∷ (l ++ (newline_byte ∷ rest))) ≡ return_byte ∷ line_of (d ∷ (l ++ (newline_byte ∷ rest)))
    on = unfold line_of line_return in rw h

    bad : (s : List ℕ) → line_end (field_all x (return_byte ∷ s)) ≡ heard_bad
    bad s = unfold field_all in rw (return_wrong x r) (wrong_ends s)

scanned : (l rest : List ℕ) (x : LineScan) → Reads x → has newline_byte l ≡ false
    → line_end (scan_all x l) ≡ line_end (field_all x (line_of (l ++ (newline_byte ∷ rest))))
unfolding scan_all scan_byte field_all line_of line_return
scanned [] rest x r h = refl
scanned (b ∷ []) rest x r h = rw (without_head newline_byte b [] h).0 (go (eqb b return_byte))
  where
    go : (e : Bool) → line_end (pick e (at_return x) (field_byte x b)) ≡ line_end (field_all x (pick (e && true) [] (b ∷ [])))
    go true = unfold field_all in return_ends x r
    go false = unfold field_all in refl
scanned (b ∷ (d ∷ l)) rest x r h =
    let w = without_head newline_byte b (d ∷ l) h in
    go (eqb b return_byte) refl w.0 w.1 (scanned (d ∷ l) rest (field_byte x b) (reads_on x b r) w.1)
  where
    go : (e : Bool) → eqb b return_byte ≡ e → eqb b newline_byte ≡ false → has newline_byte (d ∷ l) ≡ false
        → line_end (scan_all (field_byte x b) (d ∷ l)) ≡ line_end (field_all (field_byte x b) (line_of (d ∷ (l ++ (newline_byte ∷ rest)))))
        → line_end (scan_all x (b ∷ d ∷ l)) ≡ line_end (field_all x (line_of (b ∷ d ∷ (l ++ (newline_byte ∷ rest)))))
    go true e n m more =
        rw (eqb-true b return_byte e) (return_within d l rest x r (without_head newline_byte d l m).0)
    go false e n m more = unfold scan_all scan_byte field_all line_of line_return in rw (e, n) more

-- what is heard of a line is what the line says that the finder hands back
pub line_heard : (l rest : List ℕ) → has newline_byte l ≡ false
    → line_end (scan_all unread l) ≡ hears (slot_says (line_of (l ++ (newline_byte ∷ rest))))
line_heard l rest h = scanned l rest unread tt h ∙ fields_heard (line_of (l ++ (newline_byte ∷ rest)))
