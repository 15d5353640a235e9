mod HandRuns
