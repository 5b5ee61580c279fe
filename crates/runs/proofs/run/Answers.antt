use Rattle.std.proofs.Common.{◌≡◌, ℕ, ◌<◌, List, map, length, get_or, set, sym, refl, ap, ◌∙◌, subst, arith}
use Rattle.std.proofs.lemmas.List.{map-set, set-get_or, get_or-map, take_more_set, take_all}
use Rattle.runs.specs.declared.Reply.{Reply}
use Rattle.runs.specs.declared.Step.{Step}
use Rattle.runs.specs.Laws.{call_of, Runs}
use Rattle.runs.specs.Steps.{disk_of}
use Rattle.runs.proofs.Agreements.{Going, going_start, going_more}
use Rattle.runs.proofs.run.Goals as goal

-- a reply beside a call leaves the calls
same_calls : (ss : List Step) (i : ℕ) (d : Step) (r : Reply) → i < length ss → map call_of (set ss i (record { call = (get_or ss i d).call; reply = r })) ≡ map call_of ss
same_calls ss i d r lt = map-set call_of ss i (record { call = (get_or ss i d).call; reply = r }) ∙ ap (set (map call_of ss) i) (sym (get_or-map call_of ss i d (call_of d) lt)) ∙ set-get_or (map call_of ss) i (call_of d)

pub loop-step-init : goal.loop-step-init
loop-step-init g c = record {
  calls = refl;
  law = λ b lo hi. going_start g.S.Make.Disk.reads g.S.Make.Disk.may g.S.Make.Disk.gone g.S.Make.Disk.did g.met.S.Make.Disk.stands g.met.S.Make.Disk.keeps c.args.disk lo hi b;
}

pub loop-step-preserved : goal.loop-step-preserved
loop-step-preserved g c =
    let lt : c.loop-step.step-index < length c.loop-step.steps = omega arith in
    record {
      calls = same_calls c.loop-step.steps c.loop-step.step-index _ c.make_call-next.result.1 lt ∙ c.loop-step.invariant.calls;
      law = λ b lo hi.
          subst (λ ss. Going g.S.Make.Disk.reads g.S.Make.Disk.may g.S.Make.Disk.gone g.S.Make.Disk.did g.met.S.Make.Disk.stands g.met.S.Make.Disk.keeps c.args.disk lo hi ss c.make_call-next.result.0)
          (sym (take_more_set c.loop-step.steps c.loop-step.step-index _ lt))
          (going_more g.S.Make.Disk.reads g.S.Make.Disk.may g.S.Make.Disk.gone g.S.Make.Disk.did g.met.S.Make.Disk.stands g.met.S.Make.Disk.keeps c.args.disk lo hi c.loop-step.phase _ c.make_call-next.result.0 c.make_call-next.result.1 (c.loop-step.invariant.law b lo hi) c.make_call-next.ensures);
    }

pub returns : goal.returns
returns g c = record {
  calls = c.loop-step.invariant.calls;
  law = λ b lo hi.
      let h = c.loop-step.invariant.law b lo hi in
      record {
        ledger = record { acknowledged = h.acknowledged; doubt = h.doubt; stage = h.stage };
        run = subst (λ ss. Runs g.S.Make.Disk.reads g.S.Make.Disk.may g.S.Make.Disk.did c.args.disk ss (disk_of c.loop-step.phase) (record { acknowledged = h.acknowledged; doubt = h.doubt; stage = h.stage })) (take_all c.loop-step.step-index c.loop-step.steps (omega arith)) h.run;
      };
}
