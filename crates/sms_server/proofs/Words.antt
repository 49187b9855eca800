-- What a page sends are words of the server.
use Rattle.std.proofs.Common.{ℕ, zero, suc, ◌≡◌, ◌⊎◌, ◌==◌, not, Bool, true, false, if◌then◌else◌, List, [], ◌∷◌, ◌++◌, length, length-set, inl, inr, refl, ◌∙◌}
use Rattle.std.proofs.Common.{ap}
use Rattle.std.specs.Prelude.{slice_index, slice_set}
use Rattle.sms_pages.specs.Directory.{Directory, Outcome, grant, granted, is_recalled, recall, recalled, recalls, served, turn}
use Rattle.sms_pages.specs.Stands.{lock_number}
use Rattle.sms_pages.specs.declared.holding.Turn.{Turn}
use Rattle.sms_pages.specs.declared.holding.Turn.TheVariants.{Leaves, Recalls, Waits, Grants}
use Rattle.sms_pages.specs.declared.reply.Reply.{Reply}
use Rattle.sms_pages.specs.declared.reply.Reply.TheVariants.{Supply, Flush, CleanLock, Unlock}
use Rattle.vm_base.specs.declared.ids.Lock.{Lock}
use Rattle.vm_base.specs.declared.ids.ObjectId.{ObjectId}
use Rattle.vm_base.specs.declared.ids.PageNo.{PageNo}
use Rattle.vm_model.specs.Server.{Wanting, wants_write}
use Rattle.vm_model.specs.Words.{UpWord, Asking, Unlocking, Returning, Doing, Ending, OtherUp, in_range, up_word}
use Rattle.vm_model.specs.declared.event.Event.{Event}
use Rattle.vm_model.specs.declared.message.Message.{Message}
use Rattle.vm_model.specs.declared.message.Message.TheVariants as message
use Rattle.sms_server.specs.Answers.{AreServerWords, DirectoryAfter, ReturnsWhole, RowAfter, changed_by, heard_row, replies_to, reply_events, row_events}
use Rattle.sms_server.specs.Answers.{serving}
use Rattle.sms_server.specs.declared.page_row.PageRow.{PageRow}

-- a supply has the page's bytes, and at most prohibits writing
abbrev IsGood : List ℕ → Reply → Type 0
IsGood bytes (Supply host lock supplied) = (supplied ≡ bytes) × (lock.read ≡ false)
IsGood bytes (Flush host) = Unit {0}
IsGood bytes (CleanLock host) = Unit {0}
IsGood bytes (Unlock host) = Unit {0}

abbrev AreGood : List ℕ → List Reply → Type 0
AreGood bytes [] = Unit {0}
AreGood bytes (r ∷ rs) = IsGood bytes r × AreGood bytes rs

both_good : (bytes : List ℕ) (one two : List Reply) → AreGood bytes one → AreGood bytes two → AreGood bytes (one ++ two)
both_good bytes [] two a b = b
both_good bytes (r ∷ rs) two a b = (a.0, both_good bytes rs two a.1 b)

recall_good : (bytes : List ℕ) (w : Wanting) (host : ℕ) → IsGood bytes (recall w host)
recall_good bytes w host = by (wants_write w)
  where
    by : (b : Bool) → IsGood bytes (if b then Flush (record { 0 = host }) else CleanLock (record { 0 = host }))
    by true = tt
    by false = tt

recalls_good : (bytes : List ℕ) (w : Wanting) (holds awaits : List ℕ) (n : ℕ) → AreGood bytes (recalls w holds awaits n)
recalls_good bytes w holds awaits zero = tt
recalls_good bytes w holds awaits (suc n) = by (is_recalled w n (slice_index holds n) (slice_index awaits n)) (recalls_good bytes w holds awaits n)
  where
    by : (b : Bool) → AreGood bytes (recalls w holds awaits n) → AreGood bytes (if b then recall w n ∷ recalls w holds awaits n else recalls w holds awaits n)
    by true rest = (recall_good bytes w n, rest)
    by false rest = rest

grant_good : (bytes : List ℕ) (w : Wanting) → IsGood bytes (grant w bytes)
grant_good bytes w = by w.upgrade
  where
    by : (b : Bool) → IsGood bytes (if b then Unlock (record { 0 = w.host }) else Supply (record { 0 = w.host })
        (record { read = false; write = not (wants_write w) }) bytes)
    by true = tt
    by false = (refl, refl)

served_good : (sent : List Reply) (holds awaits bytes : List ℕ) (line : List Wanting) → AreGood bytes sent
    → AreGood bytes (served sent holds awaits bytes line).replies
served_good sent holds awaits bytes [] good = good
served_good sent holds awaits bytes (w ∷ ws) good =
    by_turn (turn w holds awaits) (served_good sent holds awaits bytes ws good) (served_good (grant w bytes ∷ sent) (slice_set holds w.host (granted w)) awaits
    bytes ws (grant_good bytes w, good))
  where
    by_turn : (t : Turn) → AreGood bytes (served sent holds awaits bytes ws).replies
        → AreGood bytes (served (grant w bytes ∷ sent) (slice_set holds w.host (granted w)) awaits bytes ws).replies
        → AreGood bytes (elim t as (λ t. Outcome) [
          | Leaves ↦ served sent holds awaits bytes ws
          | Recalls ↦ record { holds = holds; awaits = recalled w holds awaits 8; line = w ∷ ws; replies = recalls w holds awaits 8 ++ sent }
          | Waits ↦ record { holds = holds; awaits = awaits; line = w ∷ ws; replies = sent }
          | Grants ↦ served (grant w bytes ∷ sent) (slice_set holds w.host (granted w)) awaits bytes ws
        ]).replies
    by_turn Leaves on given = on
    by_turn Recalls on given = both_good bytes (recalls w holds awaits 8) sent (recalls_good bytes w holds awaits 8) good
    by_turn Waits on given = good
    by_turn Grants on given = given

-- the bytes that a page has once the word is noted
abbrev noted_bytes : UpWord → List ℕ → List ℕ
noted_bytes (Returning dirty keep bytes) was = bytes
noted_bytes word was = was

serving_good : (d : Directory) → AreGood d.bytes (serving d).replies
serving_good d = served_good [] d.holds d.awaits d.bytes d.line tt

replies_good : (h : ℕ) (w : UpWord) (d : Directory) → AreGood (noted_bytes w d.bytes) (replies_to h w d)
replies_good h (Asking control access) d = serving_good (changed_by h (Asking control access) d)
replies_good h (Unlocking access) d = serving_good (changed_by h (Unlocking access) d)
replies_good h (Returning dirty keep bytes) d = serving_good (changed_by h (Returning dirty keep bytes) d)
replies_good h (Doing control count) d = serving_good (changed_by h (Doing control count) d)
replies_good h (Ending control) d = serving_good (changed_by h (Ending control) d)
replies_good h OtherUp d = tt

lock_small : (lock : Lock) → lock.read ≡ false → (lock_number lock ≡ 0) ⊎ (lock_number lock ≡ 2)
lock_small lock off = by lock.write refl
  where
    by : (b : Bool) → lock.write ≡ b → (lock_number lock ≡ 0) ⊎ (lock_number lock ≡ 2)
    by true is = inr (rw (off, is) refl)
    by false is = inl (rw (off, is) refl)

events_words : (size : ℕ) (bytes : List ℕ) (object : ObjectId) (page : PageNo) (heard : ℕ → ℕ) (rs : List Reply) → length bytes ≡ size → AreGood bytes rs
    → AreServerWords size object (reply_events object page heard rs)
events_words size bytes object page heard [] long good = tt
events_words size bytes object page heard (Supply host lock supplied ∷ rs) long good =
    ((refl, (lock_small lock good.0.1, refl, ap length good.0.0 ∙ long)), events_words size bytes object page heard rs long good.1)
events_words size bytes object page heard (Flush host ∷ rs) long good = ((refl, refl), events_words size bytes object page heard rs long good.1)
events_words size bytes object page heard (CleanLock host ∷ rs) long good = ((refl, refl), events_words size bytes object page heard rs long good.1)
events_words size bytes object page heard (Unlock host ∷ rs) long good = ((refl, refl), events_words size bytes object page heard rs long good.1)

noted_if : (size : ℕ) (b : Bool) (w : UpWord) (was : List ℕ) → noted_bytes w was ≡ was → length was ≡ size
    → length (noted_bytes (if b then w else OtherUp) was) ≡ size
noted_if size true w was same long = ap length same ∙ long
noted_if size false w was same long = long

whole_noted : (size p : ℕ) (m : Message) (was : List ℕ) → ReturnsWhole size m → length was ≡ size → length (noted_bytes (up_word p m) was) ≡ size
whole_noted size p (message.Return control page dirty keep bytes) was whole long = by (page.0 == p)
  where
    by : (b : Bool) → length (noted_bytes (if b then Returning dirty keep bytes else OtherUp) was) ≡ size
    by true = whole
    by false = long
whole_noted size p (message.Request control page access) was whole long = noted_if size (page.0 == p) (Asking control access) was refl long
whole_noted size p (message.Unlock control page access) was whole long = noted_if size (page.0 == p) (Unlocking access) was refl long
whole_noted size p (message.Completed control page count) was whole long = noted_if size (in_range p page.0 count) (Doing control count) was refl long
whole_noted size p m was whole long = long

pub row_words : (size h : ℕ) (m : Message) (row : PageRow) → ReturnsWhole size m → length row.directory.bytes ≡ size
    → AreServerWords size row.key.object (row_events h m row)
row_words size h m row whole long =
    events_words size (noted_bytes (up_word row.key.page.0 m) row.directory.bytes) row.key.object row.key.page
    (slice_index (heard_row h (up_word row.key.page.0 m) row.heard)) (replies_to h (up_word row.key.page.0 m) row.directory)
    (whole_noted size row.key.page.0 m row.directory.bytes whole long) (replies_good h (up_word row.key.page.0 m) row.directory)

pub both_words : (size : ℕ) (object : ObjectId) (one two : List Event) → AreServerWords size object one → AreServerWords size object two
    → AreServerWords size object (one ++ two)
both_words size object [] two a b = b
both_words size object (e ∷ es) two a b = (a.0, both_words size object es two a.1 b)

-- a page of whole bytes stays so
pub row_whole : (size h : ℕ) (m : Message) (old new : PageRow) → RowAfter h m old new → ReturnsWhole size m → length old.directory.bytes ≡ size
    → length old.heard ≡ 8 → (length new.directory.bytes ≡ size) × (length new.heard ≡ 8)
row_whole size h m old new after whole long eight = (
  ap length (bytes_after h (up_word old.key.page.0 m) old.directory new.directory after.directory)
      ∙ whole_noted size old.key.page.0 m old.directory.bytes whole long,
  ap length after.heard ∙ (heard_long h (up_word old.key.page.0 m) old.heard ∙ eight),
)
  where
    bytes_after : (h : ℕ) (w : UpWord) (old new : Directory) → DirectoryAfter h w old new → new.bytes ≡ noted_bytes w old.bytes
    bytes_after h (Asking control access) old new after = after.bytes
    bytes_after h (Unlocking access) old new after = after.bytes
    bytes_after h (Returning dirty keep bytes) old new after = after.bytes
    bytes_after h (Doing control count) old new after = after.bytes
    bytes_after h (Ending control) old new after = after.bytes
    bytes_after h OtherUp old new after = after.bytes

    heard_long : (h : ℕ) (w : UpWord) (heard : List ℕ) → length (heard_row h w heard) ≡ length heard
    heard_long h (Asking control access) heard = length-set heard h control
    heard_long h (Unlocking access) heard = refl
    heard_long h (Returning dirty keep bytes) heard = refl
    heard_long h (Doing control count) heard = refl
    heard_long h (Ending control) heard = refl
    heard_long h OtherUp heard = refl
