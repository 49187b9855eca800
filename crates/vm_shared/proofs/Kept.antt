-- What a host has of a shared page: its lock is none or one that prohibits writing, and it is never precious.
use Rattle.std.proofs.Common.{◌≡◌, ℕ, ◌≤◌, ◌==◌, ◌&&◌, ◌||◌, ◌∙◌, List, [], ◌∷◌, Bool, true, false, Option, Some, None, if◌then◌else◌, refl, sym, subst, arith}
use Rattle.std.proofs.Common.{inl, inr}
use Rattle.std.proofs.lemmas.Bool.Decides.{nat_tests}
use Rattle.std.specs.Prelude.{◌⊎◌, ◌+◌, nat_lt, not}
use Rattle.vm_base.specs.Pages.{little_endian_bytes}
use Rattle.vm_model.specs.declared.event.Event.{Event}
use Rattle.vm_model.specs.declared.event.Event.TheVariants as event
use Rattle.vm_model.specs.declared.message.Channel.TheVariants.{Up, Down}
use Rattle.vm_model.specs.declared.message.Message.{Message}
use Rattle.vm_model.specs.declared.message.Message.TheVariants as message
use Rattle.vm_model.specs.declared.script.Header.{Header}
use Rattle.vm_model.specs.Controls.{is_control, live_control}
use Rattle.vm_model.specs.Local.{Asks, Begins, Drops, Elsewhere, Ends, Local, LocalEffect, Moves, Place, Raises, Returns, Stores, TakesError, TakesLock}
use Rattle.vm_model.specs.Local.{TakesNothing}
use Rattle.vm_model.specs.Local.{TakesPage, Unlocks, Zeroes, effect, is_on, local, local_after, merge_effect, sent_effect, taken_effect}
use Rattle.vm_model.specs.Homes.{object_home}
use Rattle.vm_model.specs.Moments.{EachEvent}
use Rattle.vm_model.specs.Named.{named}
use Rattle.vm_model.specs.Regions.{backing_of, object_pages}
use Rattle.vm_model.specs.Tasks.{host_of}
use Rattle.vm_model.specs.Words.{in_range}
use Rattle.vm_legal.proofs.Unshared.{temporary_unshared}
use Rattle.vm_legal.specs.Licences.{Bottoms, CopiesPage, Fills, Finding, HasCause, LockRequest, Pushing, Raises as RaisesPage, lock_taken}
use Rattle.vm_legal.specs.Outside.{Outside, is_shared}
use Rattle.vm_legal.specs.Walks.{page_on}
use Rattle.vm_coherence.proofs.Locals.{LeavesApart, unmerged_of}
use Rattle.vm_coherence.specs.Locals.{IsUnmerged}
use Rattle.vm_quiet.proofs.Letters.{never}
use Rattle.vm_quiet.proofs.Sane.{right, at_place}
use Rattle.vm_shared.proofs.Numbering.{numbering}
use Rattle.vm_shared.proofs.Servers.{IsElsewhere, IsLock, IsServers, IsServersLock, none_lacks, taken_servers}

pub record IsShareds (page : Local) : Type 0 where
  pub lock : IsLock page.lock
  pub plain : page.precious ≡ false

-- what may happen to a shared page
abbrev pub Gentle : LocalEffect → Type 0
Gentle Zeroes = ⊥
Gentle (Raises bytes) = ⊥
Gentle (Moves page) = ⊥
Gentle (TakesPage lock precious bytes) = IsLock lock × (precious ≡ false)
Gentle (TakesLock lock flush) = IsLock lock ⊎ (lock ≡ 8)
Gentle other = Unit {0}

-- and that brings none
abbrev pub BringsNone : LocalEffect → Type 0
BringsNone (TakesPage lock precious bytes) = ⊥
BringsNone other = Unit {0}

lock_after : (b : Bool) (lock was : ℕ) → IsLock lock ⊎ (lock ≡ 8) → IsLock was → IsLock (if b || lock == 8 then was else lock)
lock_after b lock was new old = by (b || lock == 8) refl
  where
    eight : (b : Bool) (l : ℕ) → l ≡ 8 → (b || l == 8) ≡ true
    eight b l is = grind (arith, nat_tests)

    by : (t : Bool) → (b || lock == 8) ≡ t → IsLock (if t then was else lock)
    by true is = old
    by false is = elim new [ inl one ↦ one | inr other ↦ never (sym is ∙ eight b lock other) ]

moved : (size : ℕ) (e : LocalEffect) (page : Local) → Gentle e → IsShareds page → IsShareds (local_after size e page)
moved size Zeroes page g i = absurd g
moved size (Raises bytes) page g i = absurd g
moved size (Moves source) page g i = absurd g
moved size (Stores at bytes) page g i = record { lock = i.lock; plain = i.plain }
moved size Drops page g i = record { lock = inl refl; plain = refl }
moved size (Returns true) page g i = record { lock = i.lock; plain = refl }
moved size (Returns false) page g i = record { lock = inl refl; plain = refl }
moved size Asks page g i = record { lock = i.lock; plain = i.plain }
moved size Unlocks page g i = record { lock = i.lock; plain = i.plain }
moved size (TakesPage lock precious bytes) page g i = by page.asked
  where
    by : (b : Bool) → IsShareds (if b then record page {
      here = true;
      bytes = bytes;
      lock = lock;
      dirty = false;
      precious = precious;
      unlocking = false;
      asked = false;
    } else page)
    by true = record { lock = g.0; plain = g.1 }
    by false = i
moved size TakesNothing page g i = by page.asked
  where
    by : (b : Bool) → IsShareds (if b then record page { asked = false; absent = true } else page)
    by true = record { lock = i.lock; plain = i.plain }
    by false = i
moved size TakesError page g i = record { lock = i.lock; plain = i.plain }
moved size (TakesLock lock flush) page g i = by page.here
  where
    by : (b : Bool) → IsShareds (if b then record page { lock = if flush || lock == 8 then page.lock else lock; unlocking = false } else page)
    by true = record { lock = lock_after flush lock page.lock g i.lock; plain = i.plain }
    by false = i
moved size Begins page g i = record { lock = i.lock; plain = i.plain }
moved size Ends page g i = record { lock = i.lock; plain = i.plain }
moved size Elsewhere page g i = i

here_was : (size : ℕ) (e : LocalEffect) (page : Local) → Gentle e → BringsNone e → (local_after size e page).here ≡ true → page.here ≡ true
here_was size Zeroes page g b here = absurd g
here_was size (Raises bytes) page g b here = absurd g
here_was size (Moves source) page g b here = absurd g
here_was size (Stores at bytes) page g b here = here
here_was size Drops page g b here = never here
here_was size (Returns true) page g b here = here
here_was size (Returns false) page g b here = never here
here_was size Asks page g b here = here
here_was size Unlocks page g b here = here
here_was size (TakesPage lock precious bytes) page g b here = absurd b
here_was size TakesNothing page g b here = by page.asked here
  where
    by : (b : Bool) → (if b then record page { asked = false; absent = true } else page).here ≡ true → page.here ≡ true
    by true is = is
    by false is = is
here_was size TakesError page g b here = here
here_was size (TakesLock lock flush) page g b here = by page.here refl here
  where
    by : (b : Bool) → page.here ≡ b → (if b then record page { lock = if flush || lock == 8 then page.lock else lock; unlocking = false } else page).here ≡ true
        → page.here ≡ true
    by true now is = is
    by false now is = is
here_was size Begins page g b here = here
here_was size Ends page g b here = here
here_was size Elsewhere page g b here = here

-- what each event is to a shared page

gentle_if : (b : Bool) (e : LocalEffect) → (b ≡ true → Gentle e) → Gentle (if b then e else Elsewhere)
gentle_if true e is = is refl
gentle_if false e is = tt

none_if : (b : Bool) (e : LocalEffect) → BringsNone e → BringsNone (if b then e else Elsewhere)
none_if true e is = is
none_if false e is = tt

apart : (header : Header) (o : ℕ) → is_shared header o ≡ true → named header ≤ o → ⊥
apart header o shared above = never (sym (temporary_unshared header o above) ∙ shared)

pub unzeroed : (header : Header) (outside : Outside) (host o p : ℕ) (past : List Event) → EachEvent (HasCause header outside) past → is_shared header o ≡ true
    → Fills header host o p past ⊎ Bottoms header host o p past → ⊥
unzeroed header outside host o p past caused shared (inl c) =
    let lacks : IsElsewhere (Some (record { host = host; object = o; page = p })) header = subst (λ a. IsElsewhere a header) c.void
    (none_lacks header outside past caused) in
    lacks shared
unzeroed header outside host o p past caused shared (inr c) = apart header o shared c.temporary

pub unraised : (header : Header) (outside : Outside) (host lower lower_page o p : ℕ) (past : List Event) → EachEvent (HasCause header outside) past
    → is_shared header o ≡ true → RaisesPage header host lower lower_page o p past → ⊥
unraised header outside host lower lower_page o p past caused shared (Finding c) =
    apart header o shared ((numbering header outside past caused).numbered.upper o c.walks.1)
unraised header outside host lower lower_page o p past caused shared (Pushing c) =
    apart header o shared ((numbering header outside past caused).numbered.newest lower o c.owes.newest)

pub uncopied : (header : Header) (outside : Outside) (task index object page target : ℕ) (past : List Event) → EachEvent (HasCause header outside) past
    → is_shared header target ≡ true → CopiesPage header task index object page target past → ⊥
uncopied header outside task index object page target past caused shared c =
    apart header target shared ((numbering header outside past caused).fills task _ c.filled)

-- no merge names a shared object, and no page of another one comes to it
apart_leaves : (header : Header) (outside : Outside) (e : Event) (past : List Event) → EachEvent (HasCause header outside) past → HasCause header outside e past
    → (o : ℕ) → is_shared header o ≡ true → LeavesApart o e past
apart_leaves header outside (event.Merged upper lower) past caused c o shared = (
  λ same. apart header upper.0 (subst (λ k. is_shared header k ≡ true) same shared)
      ((numbering header outside past caused).numbered.upper upper.0 c.1.pair.backed),
  λ same. apart header lower.0 (subst (λ k. is_shared header k ≡ true) same shared) c.1.pair.temporary,
)
apart_leaves header outside (event.Raised at lower lower_page upper upper_page) past caused c o shared =
    λ same. unraised header outside at.0 lower.0 lower_page.0 upper.0 upper_page.0 past caused (subst (λ k. is_shared header k ≡ true) same shared) c.1
apart_leaves header outside (event.CopiedPage task page object object_page target) past caused c o shared =
    λ same. uncopied header outside task.0 page.0 object.0 object_page.0 target.0 past caused (subst (λ k. is_shared header k ≡ true) same shared) c.1
apart_leaves header outside e past caused c o shared = tt

each_apart : (header : Header) (outside : Outside) (history : List Event) → EachEvent (HasCause header outside) history → (o : ℕ) → is_shared header o ≡ true
    → EachEvent (LeavesApart o) history
each_apart header outside [] caused o shared = tt
each_apart header outside (e ∷ past) caused o shared =
    (apart_leaves header outside e past caused.1 caused.0 o shared, each_apart header outside past caused.1 o shared)

pub unmerged : (header : Header) (outside : Outside) (history : List Event) → EachEvent (HasCause header outside) history → (o : ℕ) → is_shared header o ≡ true
    → IsUnmerged o history
unmerged header outside history caused o shared = unmerged_of o history (each_apart header outside history caused o shared)

-- no page of a shared object moves
gentle_merged : (upper lower shift upper_pages lower_pages : ℕ) (place : Place) (others : Place → Local) → ((place.object == upper) ≡ true → ⊥)
    → Gentle (merge_effect upper lower shift upper_pages lower_pages place others)
gentle_merged upper lower shift upper_pages lower_pages place others apart = by (place.object == upper) apart
  where
    by : (b : Bool) → (b ≡ true → ⊥)
        → Gentle (if b
        then if nat_lt place.page upper_pages && (nat_lt (shift + place.page) lower_pages
        && ((others (record { object = lower; page = shift + place.page })).here && not (others place).here))
        then Moves (others (record { object = lower; page = shift + place.page }))
        else Elsewhere
        else if place.object == lower && nat_lt place.page lower_pages then Drops else Elsewhere)
    by true other = absurd (other refl)
    by false other = gentle_if (place.object == lower && nat_lt place.page lower_pages) Drops (λ is. tt)

none_merged : (upper lower shift upper_pages lower_pages : ℕ) (place : Place) (others : Place → Local)
    → BringsNone (merge_effect upper lower shift upper_pages lower_pages place others)
none_merged upper lower shift upper_pages lower_pages place others =
    by (place.object == upper) _ _ (none_if _ (Moves _) tt) (none_if (place.object == lower && nat_lt place.page lower_pages) Drops tt)
  where
    by : (b : Bool) (e f : LocalEffect) → BringsNone e → BringsNone f → BringsNone (if b then e else f)
    by true e f one other = one
    by false e f one other = other

gentle_sent : (p : ℕ) (live : Option ℕ) (m : Message) → Gentle (sent_effect p live m)
gentle_sent p live (message.Init control size) = tt
gentle_sent p live (message.Create control size) = tt
gentle_sent p live (message.Terminate control) = gentle_if (is_control control live) Ends (λ is. tt)
gentle_sent p live (message.Request control at access) = gentle_if (at.0 == p && is_control control live) Asks (λ is. tt)
gentle_sent p live (message.Unlock control at access) = gentle_if (at.0 == p) Unlocks (λ is. tt)
gentle_sent p live (message.Return control at dirty keep bytes) = gentle_if (at.0 == p) (Returns keep) (λ is. tt)
gentle_sent p live m = tt

none_sent : (p : ℕ) (live : Option ℕ) (m : Message) → BringsNone (sent_effect p live m)
none_sent p live (message.Init control size) = tt
none_sent p live (message.Create control size) = tt
none_sent p live (message.Terminate control) = none_if (is_control control live) Ends tt
none_sent p live (message.Request control at access) = none_if (at.0 == p && is_control control live) Asks tt
none_sent p live (message.Unlock control at access) = none_if (at.0 == p) Unlocks tt
none_sent p live (message.Return control at dirty keep bytes) = none_if (at.0 == p) (Returns keep) tt
none_sent p live m = tt

servers_lock : (count returns : ℕ) (flush : Bool) (lock : ℕ) (reply : Bool) → IsServersLock count returns flush lock reply → IsLock lock ⊎ (lock ≡ 8)
servers_lock count returns true lock true is = inr is.2
servers_lock count returns false lock true is = inl (inr is.2)
servers_lock count returns true lock false is = absurd is
servers_lock count returns false lock false is = inl (inl is.2)

gentle_taken : (p : ℕ) (m : Message) → IsServers m → Gentle (taken_effect p m)
gentle_taken p (message.Supply at lock precious bytes) is = gentle_if (at.0 == p) (TakesPage lock precious bytes) (λ same. is)
gentle_taken p (message.Lock at count returns flush lock reply) is =
    gentle_if (in_range p at.0 count) (TakesLock lock flush) (λ same. servers_lock count returns flush lock reply is)
gentle_taken p (message.Ready cache strategy) is = tt
gentle_taken p m is = absurd is

its : (header : Header) (a b c d : ℕ) → (a == b && c == d) ≡ true → is_shared header d ≡ true → is_shared header c ≡ true
its header a b c d is shared = subst (λ k. is_shared header k ≡ true) (same a b c d is) shared
  where
    same : (a b c d : ℕ) → (a == b && c == d) ≡ true → d ≡ c
    same a b c d is = grind (arith, nat_tests)

theirs : (header : Header) (a h b o : ℕ) (t : Bool) → (a == h && (b == o && t)) ≡ true → is_shared header o ≡ true → is_shared header b ≡ true
theirs header a h b o t is shared = its header a h b o (both (a == h) (b == o) t is) shared
  where
    both : (a b c : Bool) → (a && (b && c)) ≡ true → (a && b) ≡ true
    both true true c is = refl
    both true false c is = is
    both false b c is = is

number_is : (a b : ℕ) → (a == b) ≡ true → a ≡ b
number_is a b is = grind (arith, nat_tests)

pub gentle : (header : Header) (outside : Outside) (e : Event) (past : List Event) → EachEvent (HasCause header outside) past → HasCause header outside e past
    → (h o p : ℕ) → is_shared header o ≡ true
    → Gentle (effect header h (record { object = o; page = p }) (λ source. local header h source past) e past)
gentle header outside (event.Zeroed at object page) past caused c h o p shared =
    gentle_if (at.0 == h && (object.0 == o && page.0 == p)) Zeroes (λ is. unzeroed header outside at.0 object.0 page.0 past caused
    (theirs header at.0 h object.0 o (page.0 == p) is shared) c.1)
gentle header outside (event.Raised at lower lower_page upper upper_page) past caused c h o p shared =
    gentle_if (at.0 == h && (upper.0 == o && upper_page.0 == p)) (Raises _) (λ is. unraised header outside at.0 lower.0 lower_page.0 upper.0 upper_page.0 past
    caused (theirs header at.0 h upper.0 o (upper_page.0 == p) is shared) c.1)
gentle header outside (event.CopiedPage task page object object_page target) past caused c h o p shared =
    gentle_if (is_on h (host_of task.0 past) && (target.0 == o && page.0 == p)) (Raises _)
    (λ is. uncopied header outside task.0 page.0 object.0 object_page.0 target.0 past caused
    (subst (λ k. is_shared header k ≡ true) (sym (at_place (λ k q. target.0 ≡ k) target.0 page.0 o p (right (is_on h (host_of task.0 past)) _ is) refl))
    shared) c.1)
gentle header outside (event.Merged upper lower) past caused c h o p shared =
    gentle_if (is_on h (object_home upper.0 past)) _ (λ on. gentle_merged upper.0 lower.0 (backing_of header upper.0 past).shift
    (object_pages header upper.0 past) (object_pages header lower.0 past) (record { object = o; page = p }) (λ source. local header h source past)
    (λ is. (apart_leaves header outside (event.Merged upper lower) past caused c o shared).0 (number_is o upper.0 is)))
gentle header outside (event.Stored task object page at size value) past caused c h o p shared =
    gentle_if (is_on h (host_of task.0 past) && (object.0 == o && page.0 == p)) (Stores at (little_endian_bytes size value)) (λ is. tt)
gentle header outside (event.Dropped at object page) past caused c h o p shared = gentle_if (at.0 == h && (object.0 == o && page.0 == p)) Drops (λ is. tt)
gentle header outside (event.Sent (Up at object) m) past caused c h o p shared =
    gentle_if (at.0 == h && object.0 == o) (sent_effect p (live_control h o past) m) (λ is. gentle_sent p (live_control h o past) m)
gentle header outside (event.Sent (Down at object control) m) past caused c h o p shared = tt
gentle header outside (event.Taken (Up at object) m) past caused c h o p shared = tt
gentle header outside (event.Taken (Down at object control) m) past caused c h o p shared =
    gentle_if (at.0 == h && (object.0 == o && is_control control (live_control h o past))) (taken_effect p m)
    (λ is. gentle_taken p m (taken_servers header outside at object control m past caused c.1.0
    (theirs header at.0 h object.0 o (is_control control (live_control h o past)) is shared)))
gentle header outside e past caused c h o p shared = tt

pub shareds_of : (header : Header) (outside : Outside) (past : List Event) → EachEvent (HasCause header outside) past → (h o p : ℕ) → is_shared header o ≡ true
    → IsShareds (page_on header h o p past)
shareds_of header outside [] caused h o p shared = record { lock = inl refl; plain = refl }
shareds_of header outside (e ∷ past) caused h o p shared =
    moved header.size (effect header h (record { object = o; page = p }) (λ source. local header h source past) e past) (page_on header h o p past)
    (gentle header outside e past caused.1 caused.0 h o p shared) (shareds_of header outside past caused.1 h o p shared)

-- where a step took a lock over an object whose page is here, its control lives still

abbrev pub still_lives : ℕ → ℕ → Option LockRequest → Option ℕ → Bool
still_lives h o None live = true
still_lives h o (Some r) live = if r.host == h && r.object == o then is_control r.control live else true

lives_if : (b : Bool) (h o : ℕ) (r : LockRequest) (live : Option ℕ) → ((r.host == h && r.object == o) ≡ true → b ≡ true → is_control r.control live ≡ true)
    → still_lives h o (if b then Some r else None) live ≡ true
lives_if false h o r live is = refl
lives_if true h o r live is = by (r.host == h && r.object == o) refl
  where
    by : (b : Bool) → (r.host == h && r.object == o) ≡ b → (if b then is_control r.control live else true) ≡ true
    by true same = is same refl
    by false same = refl

begun_lives : (h o control : ℕ) (lock : Option LockRequest) → still_lives h o lock None ≡ true → still_lives h o lock (Some control) ≡ true
begun_lives h o control None is = refl
begun_lives h o control (Some r) is = by (r.host == h && r.object == o) is
  where
    by : (b : Bool) → (if b then false else true) ≡ true → (if b then control == r.control else true) ≡ true
    by true e = never e
    by false e = refl

opened_lives : (b : Bool) (h o control : ℕ) (lock : Option LockRequest) (live : Option ℕ) → (b ≡ true → live ≡ None) → still_lives h o lock live ≡ true
    → still_lives h o lock (if b then Some control else live) ≡ true
opened_lives false h o control lock live none is = is
opened_lives true h o control lock live none is = begun_lives h o control lock (subst (λ (l : Option ℕ). still_lives h o lock l ≡ true) (none refl) is)

same_if : (b : Bool) (h o : ℕ) (lock : Option LockRequest) (live after : Option ℕ) → (b ≡ true → ⊥) → still_lives h o lock live ≡ true
    → still_lives h o lock (if b then after else live) ≡ true
same_if true h o lock live after isnt is = absurd (isnt refl)
same_if false h o lock live after isnt is = is

object_of : (a b c d : ℕ) → (a == b && c == d) ≡ true → d ≡ c
object_of a b c d is = grind (arith, nat_tests)

lives_next : (header : Header) (outside : Outside) (e : Event) (past : List Event) → EachEvent (HasCause header outside) past → HasCause header outside e past
    → (h o p : ℕ) → is_shared header o ≡ true
    → ((page_on header h o p past).here ≡ true → still_lives h o (lock_taken past) (live_control h o past) ≡ true)
    → (page_on header h o p (e ∷ past)).here ≡ true → still_lives h o (lock_taken (e ∷ past)) (live_control h o (e ∷ past)) ≡ true
lives_next header outside (event.Line line) past caused c h o p shared was here = refl
lives_next header outside (event.Taken (Up host object) m) past caused c h o p shared was here = refl
lives_next header outside (event.Taken (Down host object control) (message.Lock page count returns flush lock reply)) past caused c h o p shared was here =
    lives_if (is_control control (live_control host.0 object.0 past)) h o _ (live_control h o past)
    (λ same is. at_place (λ g k. is_control control (live_control g k past) ≡ true) host.0 object.0 h o same is)
lives_next header outside (event.Taken (Down host object control) m) past caused c h o p shared was here = refl
lives_next header outside (event.Sent (Up host object) (message.Init control size)) past caused c h o p shared was here =
    opened_lives (host.0 == h && object.0 == o) h o control (lock_taken past) (live_control h o past)
    (λ is. at_place (λ g k. live_control g k past ≡ None) host.0 object.0 h o is c.1.none)
    (was (here_was header.size (if host.0 == h && object.0 == o then Begins else Elsewhere) (page_on header h o p past)
    (gentle_if (host.0 == h && object.0 == o) Begins (λ is. tt)) (none_if (host.0 == h && object.0 == o) Begins tt) here))
lives_next header outside (event.Sent (Up host object) (message.Create control size)) past caused c h o p shared was here =
    same_if (host.0 == h && object.0 == o) h o (lock_taken past) (live_control h o past) _
    (λ is. apart header object.0 (its header host.0 h object.0 o is shared) c.1.temporary)
    (was (here_was header.size (if host.0 == h && object.0 == o then Begins else Elsewhere) (page_on header h o p past)
    (gentle_if (host.0 == h && object.0 == o) Begins (λ is. tt)) (none_if (host.0 == h && object.0 == o) Begins tt) here))
lives_next header outside (event.Sent (Up host object) (message.Terminate control)) past caused c h o p shared was here =
    let effect : LocalEffect = sent_effect p (live_control h o past) (message.Terminate control) in
    let now : (page_on header h o p past).here ≡ true =
    here_was header.size (if host.0 == h && object.0 == o then effect else Elsewhere) (page_on header h o p past)
    (gentle_if (host.0 == h && object.0 == o) effect (λ is. gentle_sent p (live_control h o past) (message.Terminate control)))
    (none_if (host.0 == h && object.0 == o) effect (none_sent p (live_control h o past) (message.Terminate control))) here in
    same_if (host.0 == h && object.0 == o) h o (lock_taken past) (live_control h o past) _
    (λ is. never (sym (at_place (λ g k. (page_on header g k p past).here ≡ false) host.0 object.0 h o is (c.1.away p)) ∙ now)) (was now)
lives_next header outside (event.Sent (Up host object) m) past caused c h o p shared was here =
    let effect : LocalEffect = sent_effect p (live_control h o past) m in
    was (here_was header.size (if host.0 == h && object.0 == o then effect else Elsewhere) (page_on header h o p past)
    (gentle_if (host.0 == h && object.0 == o) effect (λ is. gentle_sent p (live_control h o past) m))
    (none_if (host.0 == h && object.0 == o) effect (none_sent p (live_control h o past) m)) here)
lives_next header outside (event.Zeroed at object page) past caused c h o p shared was here =
    was (here_was header.size (if at.0 == h && (object.0 == o && page.0 == p) then Zeroes else Elsewhere) (page_on header h o p past)
    (gentle header outside (event.Zeroed at object page) past caused c h o p shared) (none_if _ Zeroes tt) here)
lives_next header outside (event.Raised at lower lower_page upper upper_page) past caused c h o p shared was here =
    was (here_was header.size (if at.0 == h && (upper.0 == o && upper_page.0 == p) then Raises _ else Elsewhere) (page_on header h o p past)
    (gentle header outside (event.Raised at lower lower_page upper upper_page) past caused c h o p shared) (none_if _ (Raises _) tt) here)
lives_next header outside (event.CopiedPage task page object object_page target) past caused c h o p shared was here =
    was (here_was header.size (if is_on h (host_of task.0 past) && (target.0 == o && page.0 == p) then Raises _ else Elsewhere) (page_on header h o p past)
    (gentle header outside (event.CopiedPage task page object object_page target) past caused c h o p shared) (none_if _ (Raises _) tt) here)
lives_next header outside (event.Merged upper lower) past caused c h o p shared was here =
    was (here_was header.size (effect header h (record { object = o; page = p }) (λ source. local header h source past) (event.Merged upper lower) past)
    (page_on header h o p past) (gentle header outside (event.Merged upper lower) past caused c h o p shared)
    (none_if (is_on h (object_home upper.0 past)) _ (none_merged upper.0 lower.0 (backing_of header upper.0 past).shift (object_pages header upper.0 past)
    (object_pages header lower.0 past) (record { object = o; page = p }) (λ source. local header h source past))) here)
lives_next header outside (event.Stored task object page at size value) past caused c h o p shared was here =
    was (here_was header.size (if is_on h (host_of task.0 past) && (object.0 == o && page.0 == p) then Stores at (little_endian_bytes size value) else
    Elsewhere) (page_on header h o p past) (gentle_if _ (Stores at (little_endian_bytes size value)) (λ is. tt))
    (none_if _ (Stores at (little_endian_bytes size value)) tt) here)
lives_next header outside (event.Dropped at object page) past caused c h o p shared was here =
    was (here_was header.size (if at.0 == h && (object.0 == o && page.0 == p) then Drops else Elsewhere) (page_on header h o p past)
    (gentle_if _ Drops (λ is. tt)) (none_if _ Drops tt) here)
lives_next header outside e past caused c h o p shared was here = was here

pub lives_of : (header : Header) (outside : Outside) (past : List Event) → EachEvent (HasCause header outside) past → (h o p : ℕ) → is_shared header o ≡ true
    → (page_on header h o p past).here ≡ true → still_lives h o (lock_taken past) (live_control h o past) ≡ true
lives_of header outside [] caused h o p shared here = refl
lives_of header outside (e ∷ past) caused h o p shared here =
    lives_next header outside e past caused.1 caused.0 h o p shared (lives_of header outside past caused.1 h o p shared) here
