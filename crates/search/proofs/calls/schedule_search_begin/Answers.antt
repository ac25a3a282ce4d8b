use Rattle.search.proofs.calls.schedule_search_begin.Goals as goal

pub returns-clause-search : goal.returns-clause-search
returns-clause-search c test = c.begin.ensures.search test c.args.path.now
