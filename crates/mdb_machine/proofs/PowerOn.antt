-- From power-on all is known of a device that keeps messages.
use Rattle.std.proofs.Math.Bool.{or-false, and-true}
use Rattle.mdb_machine.proofs.Words.{◌≡◌, ◌∙◌, ◌↔◌, Bool, List, [], Option, Some, None, option_map, refl, ap, sym, subst, unwrap_or, fun_ext, Act, PowerOn, Profile, Choice, Gains, enabled_of, known_enabled, AllowsFacts, Facts, Tables, asked_by, effect_of, known_of, parts_by, setup_by, facts_of, Conduct, KeeperStep, StepKnowing, Allows, AllowsKept, known_by, last_list, last_told, or_else, past_of, same_past}

-- the facts are the same where their fields are
pub same_facts : {Setup Asked M : Type 0} {one other : Facts Setup Asked M}
    → one.setup ≡ other.setup → one.last_asked ≡ other.last_asked → one.enabled ≡ other.enabled
    → one.past ≡ other.past → one ≡ other
same_facts {Setup} {Asked} {M} {one} {other} setup asked enabled past =
    let same : record one { setup = one.setup } ≡ record other { setup = other.setup } =
    cc (setup, asked, enabled, past) in
    same

or_none : {X : Type 0} (told : Option X) → or_else told None ≡ told
or_none (Some x) = refl
or_none None = refl

asked_known : {X : Type 0} (profile : Profile) (told asked : Option X)
    → Allows (known_by (PowerOn profile) None (option_map (λ (x : X). Some x) told)) asked
    ↔ (asked ≡ told)
asked_known profile None asked = (λ e. e, λ e. e)
asked_known profile (Some x) asked = (λ e. e, λ e. e)

kept_known : {M : Type 0} (profile : Profile) (told : Option (List M)) (holds : Bool)
    (kept : List M)
    → AllowsKept (known_by (PowerOn profile) [] told) holds kept ↔ (kept ≡ unwrap_or told [])
kept_known profile None holds kept = (λ e. e, λ e. e)
kept_known profile (Some list) holds kept = (λ e. e, λ e. e)

pub power_on_known : {Own Setup Asked M : Type 0} (tables : Tables Own Setup Asked M)
    (profile : Profile) (so_far : List Act) (holds : Bool) (facts : Facts Setup Asked M)
    → AllowsFacts (known_of tables (PowerOn profile) so_far) holds facts
    ↔ (facts ≡ facts_of tables profile so_far)
power_on_known {Setup = Setup} {Asked = Asked} {M = M} tables profile so_far holds facts =
    let setup = or_none (last_told (setup_by tables) so_far) in
    let asked = asked_known profile (last_told (asked_by tables) so_far) in
    let past = past_of (effect_of tables) (parts_by tables) so_far in
    let enabled : known_enabled (PowerOn profile) (effect_of tables) so_far
    ≡ enabled_of profile (effect_of tables) so_far =
    fun_ext (λ kind. or-false (enabled_of profile (effect_of tables) so_far kind)) in
    let kept = kept_known profile (last_list (parts_by tables) so_far) holds in (
      λ is. same_facts (is.setup ∙ setup) ((asked facts.last_asked).0 is.last_asked)
          (is.enabled ∙ enabled)
          (same_past (is.past.reset_owed ∙ and-true past.reset_owed)
          ((kept facts.past.last_kept).0 is.past.last_kept)),
      λ same. record {
        setup = ap (λ (f : Facts Setup Asked M). f.setup) same ∙ sym setup;
        last_asked = (asked facts.last_asked).1
            (ap (λ (f : Facts Setup Asked M). f.last_asked) same);
        enabled = ap (λ (f : Facts Setup Asked M). f.enabled) same ∙ sym enabled;
        past = record {
          reset_owed = ap (λ (f : Facts Setup Asked M). f.past.reset_owed) same
              ∙ sym (and-true past.reset_owed);
          last_kept = (kept facts.past.last_kept).1
              (ap (λ (f : Facts Setup Asked M). f.past.last_kept) same);
        };
      },
    )

-- so a step is the one after the facts that the acts leave
pub power_on_steps : {Own Setup Asked M State : Type 0} (tables : Tables Own Setup Asked M)
    (conduct : Conduct Own Setup Asked M State) (profile : Profile) (so_far : List Act) (act : Act)
    (choice : Choice) (before after : State) (gains : Gains)
    → StepKnowing tables conduct (known_of tables (PowerOn profile) so_far) act choice before after
    gains
    ↔ KeeperStep tables conduct (facts_of tables profile so_far) act choice before after gains
power_on_steps tables conduct profile so_far act choice before after gains =
    let holds = conduct.holds before in
    let facts = facts_of tables profile so_far in (
      λ step. subst (λ f. KeeperStep tables conduct f act choice before after gains)
          ((power_on_known tables profile so_far holds step.facts).0 step.allowed) step.step,
      λ step. record {
        facts = facts;
        allowed = (power_on_known tables profile so_far holds facts).1 refl;
        step = step;
      },
    )
