-- Each effect on a page moves its part at a host and what the host has of it alike.
use Rattle.std.proofs.Common.{◌≡◌, ℕ, zero, suc, ◌==◌, ◌∙◌, List, Bool, true, false, Option, Some, None, if◌then◌else◌, refl}
use Rattle.std.proofs.Common.{ap, sym, subst}
use Rattle.std.specs.Prelude.{◌||◌}
use Rattle.vm_base.specs.Pages.{little_endian_bytes, with_bytes}
use Rattle.vm_model.specs.declared.message.Message.{Message}
use Rattle.vm_model.specs.declared.message.Message.TheVariants as message
use Rattle.vm_model.specs.Local as L
use Rattle.vm_model.specs.Local.{Local, Elsewhere, local_after, taken_effect}
use Rattle.vm_model.specs.Side.{Side, side_after, side_taken_down, locked, right_of}
use Rattle.vm_model.specs.Words.{Asking, Unlocking, Returning, Doing, Ending, OtherUp, Supplying, Locking, Lacking, Failing, Readying, OtherDown, ActEffect}
use Rattle.vm_model.specs.Words.{Opens, SendsUp, TakenUp, SentDown, TakesDown, Puts, Drops, Begins, Loads, Stores, Fails, BeginsCopy, Copies, EndsCopy}
use Rattle.vm_model.specs.Words.{StepBegins, Nothing, in_range, down_word, to_others}
use Rattle.vm_coherence.specs.Locals.{SideIsLocal}

-- what the tie reads of a side
pub record Alike (s t : Side) : Type 0 where
  pub right : t.right ≡ s.right
  pub lock : t.lock ≡ s.lock
  pub bytes : t.bytes ≡ s.bytes
  pub dirty : t.dirty ≡ s.dirty
  pub precious : t.precious ≡ s.precious
  pub unlocking : t.unlocking ≡ s.unlocking
  pub asked : t.asked ≡ s.asked
  pub absent : t.absent ≡ s.absent
  pub control : (if t.live then Some t.control else None) ≡ (if s.live then Some s.control else None)

pub alike : (live : Option ℕ) (s t : Side) (page : Local) → Alike s t → SideIsLocal live s page → SideIsLocal live t page
alike live s t page a i =
    record {
      right = a.right ∙ i.right;
      lock = λ here. a.lock ∙ i.lock here;
      bytes = λ here. a.bytes ∙ i.bytes here;
      dirty = λ here. a.dirty ∙ i.dirty here;
      precious = λ here. a.precious ∙ i.precious here;
      unlocking = λ here. a.unlocking ∙ i.unlocking here;
      asked = a.asked ∙ i.asked;
      absent = a.absent ∙ i.absent;
      control = a.control ∙ i.control;
    }

-- what neither sends for the page nor puts, drops, stores or takes any of it
abbrev pub IsIdle : ActEffect → Type 0
IsIdle (Opens control ready) = ⊥
IsIdle (SendsUp control word) = ⊥
IsIdle (TakesDown control word) = ⊥
IsIdle (Puts bytes dirty) = ⊥
IsIdle Drops = ⊥
IsIdle (Stores task at size value) = ⊥
IsIdle e = Unit {0}

pub same : (s t : Side) → t.right ≡ s.right → t.lock ≡ s.lock → t.bytes ≡ s.bytes → t.dirty ≡ s.dirty → t.precious ≡ s.precious → t.unlocking ≡ s.unlocking
    → t.asked ≡ s.asked → t.absent ≡ s.absent → t.live ≡ s.live → t.control ≡ s.control → Alike s t
same s t right lock bytes dirty precious unlocking asked absent live control =
    record {
      right = right;
      lock = lock;
      bytes = bytes;
      dirty = dirty;
      precious = precious;
      unlocking = unlocking;
      asked = asked;
      absent = absent;
      control = ap (λ (b : Bool). if b then Some t.control else None) live ∙ ap (λ (n : ℕ). if s.live then Some n else None) control;
    }

pub idle : (e : ActEffect) (s : Side) → IsIdle e → Alike s (side_after s e)
idle (TakenUp (Asking asker access)) s is = same s _ refl refl refl refl refl refl refl refl refl refl
idle (TakenUp (Unlocking access)) s is = same s _ refl refl refl refl refl refl refl refl refl refl
idle (TakenUp (Returning dirty keep bytes)) s is = same s _ refl refl refl refl refl refl refl refl refl refl
idle (TakenUp (Doing control count)) s is = same s _ refl refl refl refl refl refl refl refl refl refl
idle (TakenUp (Ending control)) s is = same s _ refl refl refl refl refl refl refl refl refl refl
idle (TakenUp OtherUp) s is = same s _ refl refl refl refl refl refl refl refl refl refl
idle (SentDown control (Supplying lock precious bytes)) s is = same s _ refl refl refl refl refl refl refl refl refl refl
idle (SentDown control (Locking count returns flush lock reply)) s is = same s _ refl refl refl refl refl refl refl refl refl refl
idle (SentDown control Lacking) s is = same s _ refl refl refl refl refl refl refl refl refl refl
idle (SentDown control Failing) s is = same s _ refl refl refl refl refl refl refl refl refl refl
idle (SentDown control Readying) s is = same s _ refl refl refl refl refl refl refl refl refl refl
idle (SentDown control OtherDown) s is = same s _ refl refl refl refl refl refl refl refl refl refl
idle (Begins task store at size value) s is = same s _ refl refl refl refl refl refl refl refl refl refl
idle (Loads task value) s is = same s _ refl refl refl refl refl refl refl refl refl refl
idle (Fails task) s is = same s _ refl refl refl refl refl refl refl refl refl refl
idle (BeginsCopy task times) s is = same s _ refl refl refl refl refl refl refl refl refl refl
idle (Copies task) s is = same s _ refl refl refl refl refl refl refl refl refl refl
idle (EndsCopy task) s is = same s _ refl refl refl refl refl refl refl refl refl refl
idle StepBegins s is = same s _ refl refl refl refl refl refl refl refl refl refl
idle Nothing s is = same s _ refl refl refl refl refl refl refl refl refl refl
idle (Opens control ready) s is = absurd is
idle (SendsUp control word) s is = absurd is
idle (TakesDown control word) s is = absurd is
idle (Puts bytes dirty) s is = absurd is
idle Drops s is = absurd is
idle (Stores task at size value) s is = absurd is

others_idle : (e : ActEffect) → IsIdle (to_others e)
others_idle (Opens control ready) = tt
others_idle (SendsUp control word) = tt
others_idle (TakenUp word) = tt
others_idle (SentDown control word) = tt
others_idle (TakesDown control word) = tt
others_idle (Puts bytes dirty) = tt
others_idle Drops = tt
others_idle (Begins task store at size value) = tt
others_idle (Loads task value) = tt
others_idle (Stores task at size value) = tt
others_idle (Fails task) = tt
others_idle (BeginsCopy task times) = tt
others_idle (Copies task) = tt
others_idle (EndsCopy task) = tt
others_idle StepBegins = tt
others_idle Nothing = tt

pub others : (live : Option ℕ) (e : ActEffect) (s : Side) (page : Local) → SideIsLocal live s page → SideIsLocal live (side_after s (to_others e)) page
others live e s page i = alike live s (side_after s (to_others e)) page (idle (to_others e) s (others_idle e)) i

-- each effect moves both alike

pub puts : (size : ℕ) (live : Option ℕ) (s : Side) (page : Local) (bytes : List ℕ) (dirty : Bool) (e : L.LocalEffect)
    → local_after size e page ≡ L.local_with_page bytes 0 dirty false page → SideIsLocal live s page
    → SideIsLocal live (side_after s (Puts bytes dirty)) (local_after size e page)
puts size live s page bytes dirty e is i =
    subst (λ (p : Local). SideIsLocal live (side_after s (Puts bytes dirty)) p) (sym is)
    (record {
      right = refl;
      lock = λ here. refl;
      bytes = λ here. refl;
      dirty = λ here. refl;
      precious = λ here. refl;
      unlocking = λ here. refl;
      asked = i.asked;
      absent = i.absent;
      control = i.control;
    })

-- nothing is said of a page that isn't here
pub never : {A : Type 0} → false ≡ true → A
never e = absurd (let bad : false ≡ true = e in cc)

pub drops : (size : ℕ) (live : Option ℕ) (s : Side) (page : Local) → SideIsLocal live s page
    → SideIsLocal live (side_after s Drops) (local_after size L.Drops page)
drops size live s page i =
    record {
      right = refl;
      lock = λ here. never here;
      bytes = λ here. never here;
      dirty = λ here. never here;
      precious = λ here. never here;
      unlocking = λ here. never here;
      asked = i.asked;
      absent = i.absent;
      control = i.control;
    }

pub stores : (size : ℕ) (live : Option ℕ) (s : Side) (page : Local) (task at n value : ℕ) → SideIsLocal live s page
    → SideIsLocal live (side_after s (Stores task at n value)) (local_after size (L.Stores at (little_endian_bytes n value)) page)
stores size live s page task at n value i =
    record {
      right = i.right;
      lock = i.lock;
      bytes = λ here. ap (with_bytes at (little_endian_bytes n value)) (i.bytes here);
      dirty = λ here. refl;
      precious = i.precious;
      unlocking = i.unlocking;
      asked = i.asked;
      absent = i.absent;
      control = i.control;
    }

-- the host sends

pub opens : (size : ℕ) (live : Option ℕ) (s : Side) (page : Local) (control : ℕ) (ready : Bool) → SideIsLocal live s page
    → SideIsLocal (Some control) (side_after s (Opens control ready)) (local_after size L.Begins page)
opens size live s page control ready i =
    record {
      right = i.right;
      lock = i.lock;
      bytes = i.bytes;
      dirty = i.dirty;
      precious = i.precious;
      unlocking = i.unlocking;
      asked = refl;
      absent = i.absent;
      control = refl;
    }

pub ends : (size : ℕ) (live : Option ℕ) (s : Side) (page : Local) (control told : ℕ) → SideIsLocal live s page
    → SideIsLocal None (side_after s (SendsUp control (Ending told))) (local_after size L.Ends page)
ends size live s page control told i =
    record {
      right = i.right;
      lock = i.lock;
      bytes = i.bytes;
      dirty = i.dirty;
      precious = i.precious;
      unlocking = i.unlocking;
      asked = refl;
      absent = i.absent;
      control = refl;
    }

pub asks : (size : ℕ) (live : Option ℕ) (s : Side) (page : Local) (control asker access : ℕ) → SideIsLocal live s page
    → SideIsLocal live (side_after s (SendsUp control (Asking asker access))) (local_after size L.Asks page)
asks size live s page control asker access i =
    record {
      right = i.right;
      lock = i.lock;
      bytes = i.bytes;
      dirty = i.dirty;
      precious = i.precious;
      unlocking = i.unlocking;
      asked = refl;
      absent = i.absent;
      control = i.control;
    }

pub unlocks : (size : ℕ) (live : Option ℕ) (s : Side) (page : Local) (control access : ℕ) → SideIsLocal live s page
    → SideIsLocal live (side_after s (SendsUp control (Unlocking access))) (local_after size L.Unlocks page)
unlocks size live s page control access i =
    record {
      right = i.right;
      lock = i.lock;
      bytes = i.bytes;
      dirty = i.dirty;
      precious = i.precious;
      unlocking = λ here. sym here;
      asked = i.asked;
      absent = i.absent;
      control = i.control;
    }

pub returns : (size : ℕ) (live : Option ℕ) (s : Side) (page : Local) (control : ℕ) (dirty keep : Bool) (bytes : List ℕ) → SideIsLocal live s page
    → SideIsLocal live (side_after s (SendsUp control (Returning dirty keep bytes))) (local_after size (L.Returns keep) page)
returns size live s page control dirty true bytes i =
    record {
      right = i.right;
      lock = i.lock;
      bytes = i.bytes;
      dirty = λ here. refl;
      precious = λ here. refl;
      unlocking = i.unlocking;
      asked = i.asked;
      absent = refl;
      control = i.control;
    }
returns size live s page control dirty false bytes i =
    record {
      right = refl;
      lock = λ here. never here;
      bytes = λ here. never here;
      dirty = λ here. never here;
      precious = λ here. never here;
      unlocking = λ here. never here;
      asked = i.asked;
      absent = refl;
      control = i.control;
    }

pub done : (size : ℕ) (live : Option ℕ) (s : Side) (page : Local) (control told count : ℕ) → SideIsLocal live s page
    → SideIsLocal live (side_after s (SendsUp control (Doing told count))) page
done size live s page control told count i =
    record {
      right = i.right;
      lock = i.lock;
      bytes = i.bytes;
      dirty = i.dirty;
      precious = i.precious;
      unlocking = i.unlocking;
      asked = i.asked;
      absent = i.absent;
      control = i.control;
    }

-- the live control takes

supplied : (size : ℕ) (live : Option ℕ) (s : Side) (page : Local) (lock : ℕ) (precious : Bool) (bytes : List ℕ) (a b : Bool) → s.asked ≡ a → page.asked ≡ b
    → SideIsLocal live s page → SideIsLocal live (side_taken_down s (Supplying lock precious bytes)) (local_after size (L.TakesPage lock precious bytes) page)
supplied size live s page lock precious bytes true true e f i =
    rw (e, f) (record {
      right = refl;
      lock = λ here. refl;
      bytes = λ here. refl;
      dirty = λ here. refl;
      precious = λ here. refl;
      unlocking = λ here. refl;
      asked = refl;
      absent = i.absent;
      control = i.control;
    })
supplied size live s page lock precious bytes false false e f i =
    rw (e, f) (record {
      right = i.right;
      lock = i.lock;
      bytes = i.bytes;
      dirty = i.dirty;
      precious = i.precious;
      unlocking = i.unlocking;
      asked = refl;
      absent = i.absent;
      control = i.control;
    })
supplied size live s page lock precious bytes true false e f i = never (sym f ∙ sym i.asked ∙ e)
supplied size live s page lock precious bytes false true e f i = never (sym e ∙ i.asked ∙ f)

lacks : (size : ℕ) (live : Option ℕ) (s : Side) (page : Local) (a b : Bool) → s.asked ≡ a → page.asked ≡ b → SideIsLocal live s page
    → SideIsLocal live (side_taken_down s Lacking) (local_after size L.TakesNothing page)
lacks size live s page true true e f i =
    rw (e, f) (record {
      right = i.right;
      lock = i.lock;
      bytes = i.bytes;
      dirty = i.dirty;
      precious = i.precious;
      unlocking = i.unlocking;
      asked = refl;
      absent = refl;
      control = i.control;
    })
lacks size live s page false false e f i =
    rw (e, f) (record {
      right = i.right;
      lock = i.lock;
      bytes = i.bytes;
      dirty = i.dirty;
      precious = i.precious;
      unlocking = i.unlocking;
      asked = refl;
      absent = i.absent;
      control = i.control;
    })
lacks size live s page true false e f i = never (sym f ∙ sym i.asked ∙ e)
lacks size live s page false true e f i = never (sym e ∙ i.asked ∙ f)

fails : (size : ℕ) (live : Option ℕ) (s : Side) (page : Local) → SideIsLocal live s page
    → SideIsLocal live (side_taken_down s Failing) (local_after size L.TakesError page)
fails size live s page i =
    record {
      right = i.right;
      lock = i.lock;
      bytes = i.bytes;
      dirty = i.dirty;
      precious = i.precious;
      unlocking = i.unlocking;
      asked = refl;
      absent = i.absent;
      control = i.control;
    }

locked_right : (flush : Bool) (old lock : ℕ) → locked (right_of old) flush lock ≡ right_of (if flush || lock == 8 then old else lock)
locked_right true old lock = refl
locked_right false zero lock = by_eight (lock == 8)
  where
    by_eight : (b : Bool) → (if b then 2 else right_of lock) ≡ right_of (if b then 0 else lock)
    by_eight true = refl
    by_eight false = refl
locked_right false (suc old) lock = by_eight (lock == 8)
  where
    by_eight : (b : Bool) → (if b then 1 else right_of lock) ≡ right_of (if b then suc old else lock)
    by_eight true = refl
    by_eight false = refl

locked_none : (flush : Bool) (lock : ℕ) → locked 0 flush lock ≡ 0
locked_none true lock = refl
locked_none false lock = refl

locks : (size : ℕ) (live : Option ℕ) (s : Side) (page : Local) (count returns : ℕ) (flush : Bool) (lock : ℕ) (reply b : Bool) → page.here ≡ b
    → SideIsLocal live s page → SideIsLocal live (side_taken_down s (Locking count returns flush lock reply)) (local_after size (L.TakesLock lock flush) page)
locks size live s page count returns flush lock reply true e i =
    let right : s.right ≡ right_of page.lock = i.right ∙ ap (λ (b : Bool). if b then right_of page.lock else 0) e in
    subst (λ (p : Local). SideIsLocal live (side_taken_down s (Locking count returns flush lock reply)) p)
    (sym (ap (λ (b : Bool). if b then record page { lock = if flush || lock == 8 then page.lock else lock; unlocking = false } else page) e))
    (record {
      right =
          ap (λ n. locked n flush lock) right ∙ locked_right flush page.lock lock
          ∙ sym (ap (λ (b : Bool). if b then right_of (if flush || lock == 8 then page.lock else lock) else 0) e);
      lock = λ here. ap (λ n. if flush || lock == 8 then n else lock) (i.lock here);
      bytes = i.bytes;
      dirty = i.dirty;
      precious = i.precious;
      unlocking = λ here. refl;
      asked = i.asked;
      absent = i.absent;
      control = i.control;
    })
locks size live s page count returns flush lock reply false e i =
    let right : s.right ≡ 0 = i.right ∙ ap (λ (b : Bool). if b then right_of page.lock else 0) e in
    subst (λ (p : Local). SideIsLocal live (side_taken_down s (Locking count returns flush lock reply)) p)
    (sym (ap (λ (b : Bool). if b then record page { lock = if flush || lock == 8 then page.lock else lock; unlocking = false } else page) e))
    (record {
      right = ap (λ n. locked n flush lock) right ∙ locked_none flush lock ∙ sym (ap (λ (b : Bool). if b then right_of page.lock else 0) e);
      lock = λ here. never (sym e ∙ here);
      bytes = i.bytes;
      dirty = i.dirty;
      precious = i.precious;
      unlocking = λ here. never (sym e ∙ here);
      asked = i.asked;
      absent = i.absent;
      control = i.control;
    })

-- what the live control takes of a message
pub takes : (size p : ℕ) (live : Option ℕ) (s : Side) (page : Local) (m : Message) → SideIsLocal live s page
    → SideIsLocal live (side_taken_down s (down_word p m)) (local_after size (taken_effect p m) page)
takes size p live s page (message.Supply at lock precious bytes) i = by_page (at.0 == p)
  where
    by_page : (b : Bool) → SideIsLocal live (side_taken_down s (if b then Supplying lock precious bytes else OtherDown))
        (local_after size (if b then L.TakesPage lock precious bytes else Elsewhere) page)
    by_page true = supplied size live s page lock precious bytes s.asked page.asked refl refl i
    by_page false = alike live s _ page (same s _ refl refl refl refl refl refl refl refl refl refl) i
takes size p live s page (message.Lock at count returns flush lock reply) i = by_page (in_range p at.0 count)
  where
    by_page : (b : Bool) → SideIsLocal live (side_taken_down s (if b then Locking count returns flush lock reply else OtherDown))
        (local_after size (if b then L.TakesLock lock flush else Elsewhere) page)
    by_page true = locks size live s page count returns flush lock reply page.here refl i
    by_page false = alike live s _ page (same s _ refl refl refl refl refl refl refl refl refl refl) i
takes size p live s page (message.Unavailable at) i = by_page (at.0 == p)
  where
    by_page : (b : Bool) → SideIsLocal live (side_taken_down s (if b then Lacking else OtherDown))
        (local_after size (if b then L.TakesNothing else Elsewhere) page)
    by_page true = lacks size live s page s.asked page.asked refl refl i
    by_page false = alike live s _ page (same s _ refl refl refl refl refl refl refl refl refl refl) i
takes size p live s page (message.Error at reason) i = by_page (at.0 == p)
  where
    by_page : (b : Bool) → SideIsLocal live (side_taken_down s (if b then Failing else OtherDown))
        (local_after size (if b then L.TakesError else Elsewhere) page)
    by_page true = fails size live s page i
    by_page false = alike live s _ page (same s _ refl refl refl refl refl refl refl refl refl refl) i
takes size p live s page (message.Ready cache strategy) i = alike live s _ page (same s _ refl refl refl refl refl refl refl refl refl refl) i
takes size p live s page m i = alike live s _ page (same s _ refl refl refl refl refl refl refl refl refl refl) i
