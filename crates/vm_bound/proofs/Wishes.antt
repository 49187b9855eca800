-- Whoever stands in the line of a page came there by a message for it: so where these are for pages of the object, the page is one.
use Rattle.std.proofs.Common.{ℕ, ◌≡◌, ◌%◌, ◌<◌, List, [], ◌∷◌, ◌++◌, Bool, true, false, refl, arith}
use Rattle.std.proofs.Common.{if◌then◌else◌}
use Rattle.std.proofs.lemmas.Bool.Decides.{nat_tests}
use Rattle.std.specs.Prelude.{◌==◌, ◌&&◌, replicate}
use Rattle.vm_model.specs.declared.event.Event.{Event}
use Rattle.vm_model.specs.declared.event.Event.TheVariants as event
use Rattle.vm_model.specs.declared.message.Channel.TheVariants.{Up, Down}
use Rattle.vm_model.specs.declared.message.Message.{Message}
use Rattle.vm_model.specs.declared.message.Message.TheVariants as message
use Rattle.vm_model.specs.PagePart.{page_part}
use Rattle.vm_model.specs.Server.{Wanting, joined, line, trimmed_line, without_request}
use Rattle.vm_model.specs.Side.{Side, side}
use Rattle.vm_model.specs.TaskPlace.{means_page, task_host}
use Rattle.vm_model.specs.Words.{Act, ActEffect, Asking, Begins, Copies, Doing, Drops, EndsCopy, Fails, Loads, Nothing, OtherUp, Puts, Returning, SentDown}
use Rattle.vm_model.specs.Words.{StepBegins, Stores, Supplying, TakenUp, TakesDown, Unlocking, act_of, down_word, in_range, sent_act_effect, up_word}

-- what is asked of a page, to have or to write it, is of one of so many
abbrev pub IsInside : ℕ → Message → Type 0
IsInside n (message.Request control page access) = page.0 < n
IsInside n (message.Unlock control page access) = page.0 < n
IsInside n other = Unit {0}

-- whoever stands in the line of the page wants one of the object's pages
abbrev pub Wished : Type 0 → List Wanting → Type 0
Wished Q [] = Unit {0}
Wished Q (w ∷ ws) = Q

-- what brings a host into the line
abbrev pub NeedsWish : Type 0 → ActEffect → Type 0
NeedsWish Q (TakenUp (Asking asker access)) = Q
NeedsWish Q (TakenUp (Unlocking access)) = Q
NeedsWish Q other = Unit {0}

-- along the line

wished_any : (Q : Type 0) → Q → (ws : List Wanting) → Wished Q ws
wished_any Q is [] = tt
wished_any Q is (w ∷ ws) = is

wished_trimmed : (Q : Type 0) (h holds : ℕ) (ws : List Wanting) → Wished Q ws → Wished Q (trimmed_line h holds ws)
wished_trimmed Q h holds [] all = tt
wished_trimmed Q h holds (w ∷ ws) all = wished_any Q all (trimmed_line h holds (w ∷ ws))

wished_without : (Q : Type 0) (h : ℕ) (ws : List Wanting) → Wished Q ws → Wished Q (without_request h ws)
wished_without Q h [] all = tt
wished_without Q h (w ∷ ws) all = wished_any Q all (without_request h (w ∷ ws))

wished_upgrade : (Q : Type 0) (b : Bool) (ws more : List Wanting) → Q → Wished Q ws → Wished Q (if b then more else ws)
wished_upgrade Q true ws more is all = wished_any Q is more
wished_upgrade Q false ws more is all = all

wished_joined : (Q : Type 0) (s : Side) (h : ℕ) (e : ActEffect) (ws : List Wanting) → NeedsWish Q e → Wished Q ws → Wished Q (joined s h e ws)
wished_joined Q s h (TakenUp (Asking asker access)) ws need all =
    wished_any Q need (ws ++ record { host = h; upgrade = false; access = access } ∷ [])
wished_joined Q s h (TakenUp (Unlocking access)) ws need all =
    wished_upgrade Q (s.holds == 1 && s.awaits == 0) ws (ws ++ record { host = h; upgrade = true; access = 3 } ∷ []) need all
wished_joined Q s h (SentDown control (Supplying lock precious bytes)) ws need all = wished_without Q h ws all
wished_joined Q s h e ws need all = all

-- what an event brings to the page's part

wish_if : (Q : Type 0) (b : Bool) (e f : ActEffect) → (b ≡ true → NeedsWish Q e) → NeedsWish Q f → NeedsWish Q (if b then e else f)
wish_if Q true e f one other = one refl
wish_if Q false e f one other = other

wish_sent : (Q : Type 0) (p : ℕ) (m : Message) → NeedsWish Q (sent_act_effect p m)
wish_sent Q p (message.Init control size) = tt
wish_sent Q p (message.Create control size) = tt
wish_sent Q p m = tt

wish_word : (n p : ℕ) (m : Message) → IsInside n m → NeedsWish (p < n) (TakenUp (up_word p m))
wish_word n p (message.Request control page access) inside = by (page.0 == p) refl
  where
    by : (b : Bool) → (page.0 == p) ≡ b → NeedsWish (p < n) (TakenUp (if b then Asking control access else OtherUp))
    by true is = let e : page.0 ≡ p = grind (arith, nat_tests) in omega (arith, e, inside)
    by false is = tt
wish_word n p (message.Unlock control page access) inside = by (page.0 == p) refl
  where
    by : (b : Bool) → (page.0 == p) ≡ b → NeedsWish (p < n) (TakenUp (if b then Unlocking access else OtherUp))
    by true is = let e : page.0 ≡ p = grind (arith, nat_tests) in omega (arith, e, inside)
    by false is = tt
wish_word n p (message.Return control page dirty keep bytes) inside = by (page.0 == p)
  where
    by : (b : Bool) → NeedsWish (p < n) (TakenUp (if b then Returning dirty keep bytes else OtherUp))
    by true = tt
    by false = tt
wish_word n p (message.Completed control page count) inside = by (in_range p page.0 count)
  where
    by : (b : Bool) → NeedsWish (p < n) (TakenUp (if b then Doing control count else OtherUp))
    by true = tt
    by false = tt
wish_word n p m inside = tt

abbrev WishOf : Type 0 → ℕ → ℕ → ℕ → (ℕ → ℕ) → (ℕ → ℕ → Bool) → (ℕ → ℕ → ℕ → List ℕ) → Event → Type 0
WishOf Q size o p hosts means held e = NeedsWish Q (act_of size o p hosts means held e).effect

-- the message that is taken is for a page of the object
abbrev pub TakesInside : ℕ → ℕ → Event → Type 0
TakesInside n o (event.Taken (Up host object) m) = (object.0 == o) ≡ true → IsInside n m
TakesInside n o e = Unit {0}

wish : (n size o p : ℕ) (hosts : ℕ → ℕ) (means : ℕ → ℕ → Bool) (held : ℕ → ℕ → ℕ → List ℕ) (e : Event) → TakesInside n o e
    → WishOf (p < n) size o p hosts means held e
wish n size o p hosts means held (event.Taken (Up host object) m) inside =
    wish_if _ (object.0 == o) (TakenUp (up_word p m)) StepBegins (λ is. wish_word n p m (inside is)) tt
wish n size o p hosts means held (event.Taken (Down host object control) m) inside =
    wish_if _ (object.0 == o) (TakesDown control (down_word p m)) StepBegins (λ is. tt) tt
wish n size o p hosts means held (event.Sent (Up host object) m) inside = wish_if _ (object.0 == o) (sent_act_effect p m) Nothing (λ is. wish_sent _ p m) tt
wish n size o p hosts means held (event.Sent (Down host object control) m) inside =
    wish_if _ (object.0 == o) (SentDown control (down_word p m)) Nothing (λ is. tt) tt
wish n size o p hosts means held (event.Dropped host object page) inside = wish_if _ (object.0 == o && page.0 == p) Drops Nothing (λ is. tt) tt
wish n size o p hosts means held (event.Zeroed host object page) inside =
    wish_if _ (object.0 == o && page.0 == p) (Puts (replicate size 0) false) Nothing (λ is. tt) tt
wish n size o p hosts means held (event.Raised host lower lower_page upper upper_page) inside =
    wish_if _ (upper.0 == o && upper_page.0 == p) (Puts (held host.0 lower.0 lower_page.0) true) Nothing (λ is. tt) tt
wish n size o p hosts means held (event.CopiedPage owner page object object_page target) inside =
    wish_if _ (target.0 == o && page.0 == p) (Puts (held (hosts owner.0) object.0 object_page.0) true)
    (if object.0 == o && object_page.0 == p then Copies owner.0 else Nothing) (λ is. tt)
    (wish_if _ (object.0 == o && object_page.0 == p) (Copies owner.0) Nothing (λ is. tt) tt)
wish n size o p hosts means held (event.BegunLoad owner address bytes) inside =
    wish_if _ (means owner.0 address) (Begins owner.0 false (address % size) bytes 0) Nothing (λ is. tt) tt
wish n size o p hosts means held (event.BegunStore owner address bytes value) inside =
    wish_if _ (means owner.0 address) (Begins owner.0 true (address % size) bytes value) Nothing (λ is. tt) tt
wish n size o p hosts means held (event.Loaded owner object page value) inside =
    wish_if _ (object.0 == o && page.0 == p) (Loads owner.0 value) Nothing (λ is. tt) tt
wish n size o p hosts means held (event.Stored owner object page at bytes value) inside =
    wish_if _ (object.0 == o && page.0 == p) (Stores owner.0 at bytes value) Nothing (λ is. tt) tt
wish n size o p hosts means held (event.Failed owner object page) inside =
    wish_if _ (object.0 == o && page.0 == p) (Fails owner.0) (EndsCopy owner.0) (λ is. tt) tt
wish n size o p hosts means held other inside = tt

pub wished_next : (n size o p : ℕ) (e : Event) (past : List Event) → TakesInside n o e → Wished (p < n) (line (page_part size o p past))
    → Wished (p < n) (line (page_part size o p (e ∷ past)))
wished_next n size o p e past inside all =
    let a : Act = act_of size o p (λ task. task_host task past) (λ task address. means_page size o p task address past)
    (λ host object page. (side host (page_part size object page past)).bytes) e in
    wished_trimmed (p < n) a.host (side a.host (a ∷ page_part size o p past)).holds
    (joined (side a.host (page_part size o p past)) a.host a.effect (line (page_part size o p past)))
    (wished_joined (p < n) (side a.host (page_part size o p past)) a.host a.effect (line (page_part size o p past))
    (wish n size o p (λ task. task_host task past) (λ task address. means_page size o p task address past)
    (λ host object page. (side host (page_part size object page past)).bytes) e inside) all)
