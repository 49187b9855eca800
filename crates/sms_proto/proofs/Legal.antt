-- A world that stands for its history is a page world.
use Rattle.std.proofs.Common.{inl, inr, ◌≡◌, ◌≢◌, ◌<◌, ◌∙◌, ℕ, List, [], ◌∷◌, map, Bool, true, false, Option, Some, None, refl, ap, sym, subst, length}
use Rattle.std.specs.Prelude.{slice_get, ◌⊎◌}
use Rattle.std.proofs.lemmas.Option.{slice_get_within}
use Rattle.vm_model.specs.declared.event.Event.{Event}
use Rattle.vm_model.specs.Side.{Side, side}
use Rattle.vm_model.specs.Waiters.{waiters}
use Rattle.vm_model.specs.PagePart.{world_part}
use Rattle.vm_model.specs.Channels.{up_queue, down_queue}
use Rattle.vm_model.specs.Coherence.{Quiet, WaitersHaveAsked}
use Rattle.vm_coherence.proofs.Whole.{page_legal}
use Rattle.vm_coherence.proofs.Still.{still}
use Rattle.sms_pages.specs.Directory.{Directory}
use Rattle.sms_proto.specs.declared.kernel.Kernel.{Kernel}
use Rattle.sms_proto.specs.Letters.{letter_message, letter_word, order_message, order_word}
use Rattle.sms_proto.specs.Kernels.{waiter_list}
use Rattle.sms_proto.specs.Worlds.{Present, StandsAt, WorldStands}
use Rattle.sms_proto.specs.World.{AllDelivered, IsPageWorld}
use Rattle.sms_proto.proofs.Standing.{step_at}

map_none : {A B C : Type 0} (f : A → B) (g : A → C) (xs : List A) → map f xs ≡ [] → map g xs ≡ []
map_none f g [] none = refl
map_none f g (x ∷ xs) none = absurd (cc)

-- the words of host h at its own number
at_host : (size h : ℕ) (history : List Event) (k : Kernel) (P : ℕ → ℕ → Type 0) → Present size h history k → P k.size k.host.0 → P size h
at_host size h history k P p own = subst (λ (n : ℕ). P n h) p.same_size (subst (λ (g : ℕ). P k.size g) p.same_host own)

abbrev Prompts : List Event → ℕ → ℕ → Type 0
Prompts history n g =
    waiters g (world_part n history) ≢ [] → ((side g (world_part n history)).asked ≡ true)
    ⊎ (((0 < (side g (world_part n history)).right) × ((side g (world_part n history)).unlocking ≡ true))
    ⊎ (((side g (world_part n history)).live ≡ true) × ((side g (world_part n history)).ready ≡ false)))

own_prompt : (history : List Event) (h size : ℕ) (k : Kernel) → Present size h history k → Prompts history k.size k.host.0
own_prompt history h size k p some = by_asked k.asked refl where
  by_asked : (b : Bool) → k.asked ≡ b → ((side k.host.0 (world_part k.size history)).asked ≡ true)
      ⊎ (((0 < (side k.host.0 (world_part k.size history)).right) × ((side k.host.0 (world_part k.size history)).unlocking ≡ true))
      ⊎ (((side k.host.0 (world_part k.size history)).live ≡ true) × ((side k.host.0 (world_part k.size history)).ready ≡ false)))
  by_asked true e = inl (p.fits.asked ∙ e)
  by_asked false e =
      let ready = p.prompt (λ none. some (p.fits.waits ∙ ap (waiter_list k.host.0) none)) e in inr
      (inl (subst (λ (n : ℕ). 0 < n) (sym p.fits.right) ready.0, p.fits.unlocking ∙ ready.1))

prompt_world : (size : ℕ) (ks : List Kernel) (d : Directory) (history : List Event) → WorldStands size ks d history → WaitersHaveAsked (world_part size history)
prompt_world size ks d history w h = one (slice_get ks h) (w.each h) where
  one : (o : Option Kernel) → StandsAt size h history o → Prompts history size h
  one None a some = absurd (some a.no_waits)
  one (Some k) p some = at_host size h history k (Prompts history) p (own_prompt history h size k p) some

not_live : (b : Bool) → b ≡ false → b ≡ true → ⊥
not_live b gone live = absurd (cc)

quiet_world : (size : ℕ) (ks : List Kernel) (d : Directory) (history : List Event) → WorldStands size ks d history → AllDelivered size (length ks) history
    → Quiet (world_part size history)
quiet_world size ks d history w delivered =
    record {
      no_up = λ h. ups h (slice_get ks h) refl (w.each h);
      no_down = λ h. downs h (slice_get ks h) refl (w.each h);
      all_ready = λ h. readies h (slice_get ks h) (w.each h);
      done = λ h. step_at size h history (slice_get ks h) (w.each h);
    } where
      ups : (h : ℕ) (o : Option Kernel) → slice_get ks h ≡ o → StandsAt size h history o → (side h (world_part size history)).up ≡ []
      ups h None is a = ap (λ (s : Side). s.up) a.nothing
      ups h (Some k) is p =
          let empty : up_queue k.host.0 0 history ≡ [] = ap (λ (n : ℕ). up_queue n 0 history) p.same_host ∙ (delivered h (slice_get_within ks h k is)).0 in
          at_host size h history k (λ n g. (side g (world_part n history)).up ≡ []) p
          (p.fits.up ∙ map_none letter_message letter_word k.up.items (sym p.fits.sent ∙ empty))

      downs : (h : ℕ) (o : Option Kernel) → slice_get ks h ≡ o → StandsAt size h history o → (side h (world_part size history)).down ≡ []
      downs h None is a = ap (λ (s : Side). s.down) a.nothing
      downs h (Some k) is p = at_host size h history k (λ n g. (side g (world_part n history)).down ≡ []) p (by_live k.live refl) where
        given : ((side k.host.0 (world_part k.size history)).live ≡ true
            → down_queue k.host.0 0 (side k.host.0 (world_part k.size history)).control history ≡ [])
        given =
            subst (λ (g : ℕ). (side g (world_part k.size history)).live ≡ true → down_queue g 0 (side g (world_part k.size history)).control history ≡ [])
            (sym p.same_host) (subst (λ (n : ℕ). (side h (world_part n history)).live ≡ true
            → down_queue h 0 (side h (world_part n history)).control history ≡ []) (sym p.same_size) (delivered h (slice_get_within ks h k is)).1)

        by_live : (b : Bool) → k.live ≡ b → (side k.host.0 (world_part k.size history)).down ≡ []
        by_live true e =
            p.fits.down ∙ map_none order_message order_word k.down.items (sym (p.fits.coming e)
            ∙ (ap (λ (n : ℕ). down_queue k.host.0 0 n history) (sym p.fits.control) ∙ given (p.fits.live ∙ e)))
        by_live false e = p.fits.down ∙ ap (map order_word) (p.fits.gone_down e)

      readies : (h : ℕ) (o : Option Kernel) → StandsAt size h history o → (side h (world_part size history)).live ≡ true
          → (side h (world_part size history)).ready ≡ true
      readies h None a = λ live. absurd (not_live (side h (world_part size history)).live (ap (λ (s : Side). s.live) a.nothing) live)
      readies h (Some k) p =
          at_host size h history k (λ n g. (side g (world_part n history)).live ≡ true → (side g (world_part n history)).ready ≡ true) p
          (λ live. p.fits.ready (sym p.fits.live ∙ live))

pub page_world : (size : ℕ) (ks : List Kernel) (d : Directory) (history : List Event) → WorldStands size ks d history → IsPageWorld size (length ks) history
page_world size ks d history w =
    record {
      legal = page_legal size (world_part size history) w.licensed;
      still =
          λ delivered. still size (world_part size history) w.licensed w.steps w.served (prompt_world size ks d history w)
          (quiet_world size ks d history w delivered);
    }
