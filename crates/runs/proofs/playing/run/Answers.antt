use Rattle.runs.specs.Played.{calls_of}
use Rattle.runs.proofs.Laws.{law}
use Rattle.runs.proofs.playing.run.Goals as goal

pub returns-clause-law : goal.returns-clause-law
returns-clause-law g c = law (g.T.TokenBank.meaning c.args.tokens) (g.H.HookBank.meaning c.args.hooks) (g.met.T.TokenBank.lawful c.args.tokens).few (calls_of c.args.lines.now)
