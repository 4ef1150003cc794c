use Rattle.std.proofs.Common.{◌≡◌, ◌≤◌, ℕ, nat_le, List, filter, rules, sym, ap, subst, ◌∙◌}
use Rattle.dnw_encoder.specs.Candidates.{AreWithin, candidates_of}
use Rattle.dnw_encoder.specs.Members.{In}
use Rattle.dnw_encoder.specs.Starts.{AreMarked}
use Rattle.dnw_encoder.specs.State.{Candidate}
use Rattle.dnw_encoder.specs.declared.candidates.Entry.{Entry}
use Rattle.dnw_encoder.proofs.CandidateLaws.{candidates_cut, candidates_filter, within_cut}
use Rattle.dnw_encoder.proofs.KeptLaws.{retained}
use Rattle.dnw_encoder.proofs.MemberLaws.{in_filter}
use Rattle.dnw_encoder.proofs.StartLaws.{marks_cut}
use Rattle.dnw_encoder.proofs.candidates.Candidates.drop_behind.Goals as goal

pub invariant_of-self : goal.invariant_of-self
invariant_of-self c =
    let octets = c.self.inside.octets.items in
    let kept : c.retain.new.self.items ≡ filter (λ (e : Entry). nat_le e.end c.args.offset) c.self.inside.entries.items =
    retained _ (λ (e : Entry). nat_le e.end c.args.offset) _ (λ x b f y h. (search rules, search rules, search rules)) _ _ c.retain.ensures.filtered in
    let within : AreWithin octets c.retain.new.self.items =
    λ e member. c.self.invariant.0 e (in_filter (λ (x : Entry). nat_le x.end c.args.offset) e c.self.inside.entries.items (subst (λ (es : List Entry). In e es) kept member)).0 in
    let marked : AreMarked c.self.inside.starts.marks octets c.retain.new.self.items =
    λ e member. c.self.invariant.1 e (in_filter (λ (x : Entry). nat_le x.end c.args.offset) e c.self.inside.entries.items (subst (λ (es : List Entry). In e es) kept member)).0 in
    let ends : (e : Entry) → In e c.retain.new.self.items → e.to ≤ c.last_octet-last.result =
    λ e member. c.last_octet-last.ensures e (subst (λ (es : List Entry). In e es) (sym c.as_slice.ensures) member) in
    rw c.truncate.ensures.items
    (within_cut octets c.last_octet-last.result c.retain.new.self.items within ends, marks_cut c.self.inside.starts.marks octets c.last_octet-last.result c.retain.new.self.items within marked ends)

pub returns : goal.returns
returns c =
    let octets = c.self.inside.octets.items in
    let entries = c.self.inside.entries.items in
    let kept : c.retain.new.self.items ≡ filter (λ (e : Entry). nat_le e.end c.args.offset) entries =
    retained _ (λ (e : Entry). nat_le e.end c.args.offset) _ (λ x b f y h. (search rules, search rules, search rules)) _ _ c.retain.ensures.filtered in
    let within : AreWithin octets c.retain.new.self.items =
    λ e member. c.self.invariant.0 e (in_filter (λ (x : Entry). nat_le x.end c.args.offset) e entries (subst (λ (es : List Entry). In e es) kept member)).0 in
    ap (λ (t : List ℕ). candidates_of t c.retain.new.self.items) c.truncate.ensures.items
    ∙ candidates_cut octets c.last_octet-last.result c.retain.new.self.items within (λ e member. c.last_octet-last.ensures e (subst (λ (es : List Entry). In e es) (sym c.as_slice.ensures) member))
    ∙ ap (λ (es : List Entry). candidates_of octets es) kept
    ∙ candidates_filter octets c.args.offset entries
    ∙ ap (λ (cs : List Candidate). filter (λ (x : Candidate). nat_le x.end c.args.offset) cs) c.self.view_is
