-- What a message and the events of its answer change of what the history says of a file.
use Rattle.std.proofs.Common.{ℕ, ◌≡◌, ◌≢◌, ◌==◌, ◌&&◌, not, Bool, true, false, List, [], ◌∷◌, ◌++◌, Option, Some, None, refl, sym, subst, arith}
use Rattle.std.proofs.Common.{if◌then◌else◌, inl, inr}
use Rattle.std.proofs.lemmas.Bool.{ne_eqb}
use Rattle.std.proofs.lemmas.Bool.Decides.{nat_tests}
use Rattle.vm_base.specs.declared.ids.PageNo.{PageNo}
use Rattle.vm_model.specs.declared.event.Event.{Event}
use Rattle.vm_model.specs.declared.event.Event.TheVariants as event
use Rattle.vm_model.specs.declared.event.Way.TheVariants.{Read}
use Rattle.vm_model.specs.declared.message.Channel.TheVariants.{Up}
use Rattle.vm_model.specs.declared.message.Message.{Message}
use Rattle.vm_model.specs.declared.message.Message.TheVariants as message
use Rattle.vm_legal.proofs.Answering.{itself, lost_now}
use Rattle.vm_legal.specs.Pagers.{is_lost, known_after, known_control, last_return, newer}
use Rattle.vm_legal.specs.Steps.{is_read}
use Rattle.pg_file.specs.Answers.{RequestAnswer, device_failed, sent_to, told_of}
use Rattle.pg_file.specs.Stands.{IsOther, taking}
use Rattle.pg_file.proofs.Pages.{same_if}

-- nothing that was returned of a file, or lost of it, is other than before
pub record Holds (object : ℕ) (past now : List Event) : Type 0 where
  pub last : (host p : ℕ) → last_return host object p now ≡ last_return host object p past
  pub lost : (p : ℕ) → is_lost object p now ≡ is_lost object p past

-- on each host the same control is known
abbrev pub KnowsSame : ℕ → List Event → List Event → Type 0
KnowsSame object past now = (host : ℕ) → known_control host object now ≡ known_control host object past

-- nor which control is known
pub record Leaves (object : ℕ) (past now : List Event) : Type 0 where
  pub known : KnowsSame object past now
  pub holds : Holds object past now

pub nothing_new : (object : ℕ) (past : List Event) → Leaves object past past
nothing_new object past = record { known = λ h. refl; holds = record { last = λ h p. refl; lost = λ p. refl } }

pub on_sent : (object host about control : ℕ) (m : Message) (past : List Event) → Leaves object past (sent_to host about control m ∷ past)
on_sent object host about control m past = record { known = λ h. refl; holds = record { last = λ h p. refl; lost = λ p. refl } }

on_unread : (object host about control : ℕ) (m : Message) (page : PageNo) (past : List Event)
    → Leaves object past (sent_to host about control m ∷ device_failed Read about page ∷ past)
on_unread object host about control m page past = record { known = λ h. refl; holds = record { last = λ h p. refl; lost = λ p. refl } }

pub leaves_all : (object : ℕ) (events is past : List Event) → events ≡ is → Leaves object past (is ++ past) → Leaves object past (events ++ past)
leaves_all object events is past e leaves = subst (λ (es : List Event). Leaves object past (es ++ past)) (sym e) leaves

pub requested : (object size host about control : ℕ) (page : PageNo) (lost : Bool) (events past : List Event)
    → RequestAnswer size host about control page lost events → Leaves object past (events ++ past)
requested object size host about control page true events past is = leaves_all object events _ past is (on_sent object host about control _ past)
requested object size host about control page false events past (inl is) = leaves_all object events _ past is.2 (on_sent object host about control _ past)
requested object size host about control page false events past (inr (inl is)) = leaves_all object events _ past is (on_sent object host about control _ past)
requested object size host about control page false events past (inr (inr is)) =
    leaves_all object events _ past is (on_unread object host about control _ page past)

-- no page is returned
abbrev pub IsNoReturn : Message → Type 0
IsNoReturn (message.Return control page dirty keep bytes) = ⊥
IsNoReturn m = Unit {0}

pub holds_taken : (host object : ℕ) (m : Message) (past : List Event) → IsNoReturn m → Holds object past (taking host object m past)
holds_taken host object (message.Return control page dirty keep bytes) past quiet = elim quiet [ ]
holds_taken host object m past quiet = record { last = λ h p. same_if (host == h && object == object) _; lost = λ p. refl }

-- no control begins or ends
abbrev pub IsNoTurn : Message → Type 0
IsNoTurn (message.Init control size) = ⊥
IsNoTurn (message.Create control size) = ⊥
IsNoTurn (message.Terminate control) = ⊥
IsNoTurn m = Unit {0}

pub known_taken : (host object : ℕ) (m : Message) (past : List Event) → IsNoTurn m → (h : ℕ)
    → known_control h object (taking host object m past) ≡ known_control h object past
known_taken host object (message.Init control size) past quiet h = elim quiet [ ]
known_taken host object (message.Create control size) past quiet h = elim quiet [ ]
known_taken host object (message.Terminate control) past quiet h = elim quiet [ ]
known_taken host object m past quiet h = same_if (host == h && object == object) _

-- what is known on the host that the message came from
pub known_there : (host object : ℕ) (m : Message) (past : List Event)
    → known_control host object (taking host object m past) ≡ known_after m (known_control host object past)
known_there host object m past = rw (itself host, itself object) refl

pub known_elsewhere : (host object h : ℕ) (m : Message) (past : List Event) → (host == h) ≡ false
    → known_control h object (taking host object m past) ≡ known_control h object past
known_elsewhere host object h m past apart = rw apart refl

-- one page was returned, and is stored or not
pub record Returned (object page : ℕ) (host : ℕ) (bytes : List ℕ) (stored : Bool) (past now : List Event) : Type 0 where
  pub known : KnowsSame object past now
  pub last : (p : ℕ) → last_return host object p now ≡ (if page == p then Some bytes else last_return host object p past)
  pub lost : (p : ℕ) → is_lost object p now ≡ (if page == p then not stored else is_lost object p past)

newer_if : (b : Bool) (bytes : List ℕ) (was : Option (List ℕ)) → newer (if b then Some bytes else None) was ≡ (if b then Some bytes else was)
newer_if true bytes was = refl
newer_if false bytes was = refl

-- an answer about the pager's object is about this one
pub sent_about : (host own object control : ℕ) (reply : Message) (events : List Event) → own ≡ object → events ≡ sent_to host own control reply ∷ []
    → events ≡ sent_to host object control reply ∷ []
sent_about host own object control reply events same is = subst (λ (o : ℕ). events ≡ sent_to host o control reply ∷ []) same is

pub returned : (host object control : ℕ) (page : PageNo) (dirty keep : Bool) (bytes : List ℕ) (stored : Bool) (past : List Event)
    → Returned object page.0 host bytes stored past (told_of stored object page ++ taking host object (message.Return control page dirty keep bytes) past)
returned host object control page dirty keep bytes true past = record {
  known = λ h. known_taken host object (message.Return control page dirty keep bytes) past tt h;
  last = λ p. rw (itself host, itself object) (newer_if (page.0 == p) bytes (last_return host object p past));
  lost = λ p. rw (itself object) refl;
}
returned host object control page dirty keep bytes false past = record {
  known = λ h. known_taken host object (message.Return control page dirty keep bytes) past tt h;
  last = λ p. rw (itself host, itself object) (newer_if (page.0 == p) bytes (last_return host object p past));
  lost = λ p. rw (itself object) (lost_now (page.0 == p) (is_lost object p past));
}

-- an event in which the pager has no part
taken_apart : (object host about h : ℕ) → about ≢ object → (host == h && about == object) ≡ false
taken_apart object host about h apart = grind (arith, nat_tests)

and_no : (a b : Bool) → (a && (false && b)) ≡ false
and_no true b = refl
and_no false b = refl

lost_elsewhere : (object host about p : ℕ) (m : Message) (past : List Event) → about ≢ object
    → is_lost object p (taking host about m past) ≡ is_lost object p past
lost_elsewhere object host about p (message.Return control page dirty keep bytes) past apart = rw (ne_eqb about object apart) refl
lost_elsewhere object host about p m past apart = refl

pub others_leave : (object : ℕ) (e : Event) (past : List Event) → IsOther object e → Leaves object past (e ∷ past)
others_leave object (event.Taken (Up host about) m) past apart = record {
  known = λ h. rw (taken_apart object host.0 about.0 h apart) refl;
  holds = record { last = λ h p. rw (taken_apart object host.0 about.0 h apart) refl; lost = λ p. lost_elsewhere object host.0 about.0 p m past apart };
}
others_leave object (event.DeviceFailed who way about page) past apart = record {
  known = λ h. refl;
  holds = record { last = λ h p. refl; lost = λ p. rw (ne_eqb about.0 object apart, and_no (not (is_read way)) (page.0 == p)) refl };
}
others_leave object (event.NoSlot about page) past apart = record {
  known = λ h. refl;
  holds = record { last = λ h p. refl; lost = λ p. rw (ne_eqb about.0 object apart) refl };
}
others_leave object e past apart = record { known = λ h. refl; holds = record { last = λ h p. refl; lost = λ p. refl } }
